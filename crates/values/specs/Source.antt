-- What an operand of a statement means, among the values that stand in the first work buffer. A term has w bytes.
-- Assumes nothing.
use Rattle.std.specs.Prelude.{◌≡◌, ℕ, ◌+◌, ◌*◌, ◌-◌, ◌≤◌, ◌<◌, List, ◌++◌, drop}
use Rattle.poly.specs.Poly.{Poly, constant, variable, units}
use Rattle.poly.specs.Size.{one_if}
use Rattle.rules.specs.declared.types.Operand.{Operand}
use Rattle.rules.specs.Limits.{most_variables}
use Rattle.verdict.specs.Lists.{tabulate}
use Rattle.verdict.specs.Meaning.{operand}
use Rattle.verdict.specs.Instances.{polynomials}
use Rattle.values.specs.declared.shelf.Shelf.{Shelf}
use Rattle.values.specs.declared.source.Source.{Source}
use Rattle.values.specs.declared.source.Source.TheVariants.{Constant, Variables, Stored}
use Rattle.values.specs.declared.source.Scope.{Scope}
use Rattle.values.specs.Shelf.{terms_at, stored, Sound}

-- the polynomial that is found there
unfoldable pub source_of : ℕ → List ℕ → Source → Poly
source_of w b (Constant c) = constant (w - 1) c
source_of w b (Variables i k) = units (w - 1) i k
source_of w b (Stored at k) = terms_at w b at k

-- how many terms it has
unfoldable pub source_size : Source → ℕ
source_size (Constant c) = one_if c
source_size (Variables i k) = k
source_size (Stored at k) = k

-- the variables are those of a term, and the value stands below top
abbrev pub Fits : ℕ → ℕ → Source → Type 0
Fits w top (Constant c) = Unit {0}
Fits w top (Variables i k) = i + k < w
Fits w top (Stored at k) = at + k ≤ top

-- the values that a block begins with
unfoldable pub beginning : ℕ → Scope → List Poly
beginning n s = tabulate s.begins (λ i. units n (i * s.width) s.width)

-- the variables that may be drawn
unfoldable pub variables_of : ℕ → Scope → List Poly
variables_of n s = tabulate s.drawn (variable n)

-- all values that a statement may read, among the values vs of all statements so far
unfoldable pub visible : ℕ → Scope → List Poly → List Poly
visible n s vs = beginning n s ++ drop s.base vs

-- the same, by the buffer b and its directory
abbrev pub reach : ℕ → List ℕ → Shelf → Scope → List Poly
reach w b d s = visible (w - 1) s (stored w b d)

-- what finding a value asks: few variables, and a block that begins at a statement so far
pub record Narrow (s : Scope) (d : Shelf) : Type 0 where
  pub sound : Sound d
  pub base : s.base ≤ d.count
  pub few : s.begins * s.width ≤ most_variables

-- the source is that of the operand, in every buffer with this directory
pub record Located (s : Scope) (d : Shelf) (a : Operand) (r : Source) : Type 0 where
  pub means : (m w : ℕ) (b : List ℕ) → source_of w b r ≡ operand (polynomials m (w - 1)) (reach w b d s) a
  pub fits : (w : ℕ) → s.begins * s.width < w → Fits w d.top r
