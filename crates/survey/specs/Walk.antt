-- A block walked statement by statement: where it goes over the limit, and what stands in the first work buffer.
-- Assumes nothing.
use Rattle.std.specs.Prelude.{◌≡◌, ℕ, ◌+◌, ◌*◌, ◌-◌, ◌≤◌, ◌<◌, cond, Result, Ok, Err, List, [], ◌∷◌, ◌++◌, ltb, length, take, drop, get_or}
use Rattle.std.specs.Prelude.{Option, None as none, Some as some}
use Rattle.poly.specs.Poly.{Poly}
use Rattle.rules.specs.declared.types.Operand.TheVariants.{Place}
use Rattle.rules.specs.declared.types.Op.TheVariants.{Set}
use Rattle.rules.specs.declared.types.Statement.{Statement}
use Rattle.rules.specs.declared.types.AffineMap.{AffineMap}
use Rattle.verdict.specs.Meaning.{given, values}
use Rattle.verdict.specs.Instances.{polynomials}
use Rattle.values.specs.declared.shelf.Shelf.{Shelf}
use Rattle.values.specs.declared.source.Scope.{Scope}
use Rattle.values.specs.Shelf.{stored, Sound}
use Rattle.values.specs.Source.{variables_of, reach}
use Rattle.values.specs.Raw.{most_standing, raw_in, Tabled, Inside}
use Rattle.values.specs.Value.{Workable}

-- the line of the first statement at which what stands and the raw size exceed the limit; vs are the values so far, xs
-- the
-- variables, and top what stands
unfoldable pub over_in : (most m n : ℕ) → List AffineMap → List Poly → List Poly → ℕ → List Statement → Option ℕ
over_in most m n maps xs vs top [] = none
over_in most m n maps xs vs top (s ∷ ss) =
    let v = given (polynomials m n) maps xs vs s.op in
    let rest = over_in most m n maps xs (vs ++ v ∷ []) (top + length v) ss in
    cond (ltb most (top + raw_in m n maps vs s.op)) (some s.line) rest

-- what stands after the statements
unfoldable pub top_in : (m n : ℕ) → List AffineMap → List Poly → List Poly → ℕ → List Statement → ℕ
top_in m n maps xs vs top [] = top
top_in m n maps xs vs top (s ∷ ss) =
    let v = given (polynomials m n) maps xs vs s.op in
    top_in m n maps xs (vs ++ v ∷ []) (top + length v) ss

-- what an array of statements reads as past its end
abbrev pub blank : Statement
blank = record { op = Set (Place 0); line = 0 }

-- the statements from i to `to`
abbrev pub part : List Statement → ℕ → ℕ → List Statement
part statements i to = take (to - i) (drop i statements)

-- the line at which a walk was given up, or none
abbrev pub line_of : Result Shelf ℕ → Option ℕ
line_of (Ok d) = none
line_of (Err line) = some line

-- what a walk over the statements from..to asks
pub record WalkAsked (m : ℕ) (lists : List (List ℕ)) (constants : List ℕ) (maps : List AffineMap)
    (statements : List Statement) (from to : ℕ)
    (s : Scope) (d : Shelf) (left right : List ℕ) (w most : ℕ) : Type 0 where
  pub work : Workable m left right w
  pub wide : s.begins * s.width < w
  pub drawn : s.drawn < w
  pub tabled : Tabled m maps lists constants
  pub ordered : from ≤ to
  pub inside : to ≤ 256
  pub count : d.count + (to - from) ≤ 256
  pub reads : (i : ℕ) → from ≤ i → i < to → Inside s.drawn (get_or statements i blank).op
  pub bounded : most ≤ most_standing
  pub top : d.top ≤ most
  pub room : most * w ≤ length left

-- the statements from..i are walked: from what stands in `left` the rest of them gives what all of them give from left₀
pub record Holds (m : ℕ) (maps : List AffineMap) (statements : List Statement) (from to : ℕ) (s : Scope) (d₀ : Shelf)
    (left₀ : List ℕ) (w most i : ℕ)
    (left : List ℕ) (d : Shelf) : Type 0 where
  pub sound : Sound d
  pub size : length left ≡ length left₀
  pub begun : from ≤ i
  pub within : i ≤ to
  pub count : d.count ≡ d₀.count + (i - from)
  pub top : d.top ≤ most
  pub kept : take s.base (stored w left d) ≡ take s.base (stored w left₀ d₀)
  pub rest : values (polynomials m (w - 1)) maps (variables_of (w - 1) s) (reach w left d s) (part statements i to)
      ≡ values (polynomials m (w - 1)) maps (variables_of (w - 1) s) (reach w left₀ d₀ s) (part statements from to)
  pub over : over_in most m (w - 1) maps (variables_of (w - 1) s) (reach w left d s) d.top (part statements i to)
      ≡ over_in most m (w - 1) maps (variables_of (w - 1) s) (reach w left₀ d₀ s) d₀.top (part statements from to)
  pub stands : top_in m (w - 1) maps (variables_of (w - 1) s) (reach w left d s) d.top (part statements i to)
      ≡ top_in m (w - 1) maps (variables_of (w - 1) s) (reach w left₀ d₀ s) d₀.top (part statements from to)

-- the whole outcome of a walk: the line at which it was given up, or all values
pub record Walked (m : ℕ) (maps : List AffineMap) (statements : List Statement) (from to : ℕ) (s : Scope) (d₀ : Shelf)
    (left₀ : List ℕ) (w most : ℕ)
    (left : List ℕ) (r : Result Shelf ℕ) : Type 0 where
  pub decided : line_of r
      ≡ over_in most m (w - 1) maps (variables_of (w - 1) s) (reach w left₀ d₀ s) d₀.top (part statements from to)
  pub finished : (d : Shelf) → r ≡ Ok d → Holds m maps statements from to s d₀ left₀ w most to left d
