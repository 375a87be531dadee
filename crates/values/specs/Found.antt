-- A statement's value and its raw size by the sources of its operands. A term has w bytes.
-- Assumes nothing.
use Rattle.std.specs.Prelude.{◌≡◌, ℕ, ◌+◌, ◌*◌, ◌-◌, ◌≤◌, ◌<◌, List, [], get_or}
use Rattle.field.specs.Laws.{gf}
use Rattle.poly.specs.Poly.{Poly, add_poly, mul_poly, map_poly}
use Rattle.poly.specs.Size.{one_if, nonzeros}
use Rattle.rules.specs.declared.types.Op.{Op}
use Rattle.rules.specs.declared.types.AffineMap.{AffineMap}
use Rattle.verdict.specs.Meaning.{given}
use Rattle.verdict.specs.Instances.{polynomials}
use Rattle.values.specs.declared.shelf.Shelf.{Shelf}
use Rattle.values.specs.declared.source.Scope.{Scope}
use Rattle.values.specs.declared.found.Found.{Found}
use Rattle.values.specs.declared.found.Found.TheVariants.{Copy, Sum, Product, Image}
use Rattle.values.specs.Source.{source_of, source_size, Fits, variables_of, reach}
use Rattle.values.specs.Raw.{most_standing, raw_in, Tabled}

-- the value, where b holds the values so far
unfoldable pub found_value : (m w : ℕ) → List (List ℕ) → List ℕ → List ℕ → Found → Poly
found_value m w lists constants b (Copy r) = source_of w b r
found_value m w lists constants b (Sum r t) = add_poly (gf m) (source_of w b r) (source_of w b t)
found_value m w lists constants b (Product r t) = mul_poly (gf m) (source_of w b r) (source_of w b t)
found_value m w lists constants b (Image f r) =
    map_poly (gf m) (w - 1) (get_or constants f 0) (get_or lists f []) (source_of w b r)

-- the raw size
unfoldable pub found_size : List (List ℕ) → List ℕ → Found → ℕ
found_size lists constants (Copy r) = source_size r
found_size lists constants (Sum r t) = source_size r + source_size t
found_size lists constants (Product r t) = source_size r * source_size t
found_size lists constants (Image f r) = nonzeros (get_or lists f []) * source_size r + one_if (get_or constants f 0)

-- all sources fit, and the map has a place in the table
abbrev pub AllFit : ℕ → ℕ → Found → Type 0
AllFit w top (Copy r) = Fits w top r
AllFit w top (Sum r t) = Fits w top r × Fits w top t
AllFit w top (Product r t) = Fits w top r × Fits w top t
AllFit w top (Image f r) = (f < 8) × Fits w top r

-- what the raw size asks: operands of few terms where sizes are added or multiplied, and a map in its place
abbrev pub RawAsked : Found → Type 0
RawAsked (Copy r) = Unit {0}
RawAsked (Sum r t) = (source_size r ≤ most_standing) × (source_size t ≤ most_standing)
RawAsked (Product r t) = (source_size r ≤ most_standing) × (source_size t ≤ most_standing)
RawAsked (Image f r) = (f < 8) × (source_size r ≤ most_standing)

-- the sources are those of the statement's operands, in every buffer with this directory
pub record FoundFor (s : Scope) (d : Shelf) (op : Op) (r : Found) : Type 0 where
  pub means : (m w : ℕ) (lists : List (List ℕ)) (constants b : List ℕ) (maps : List AffineMap)
      → Tabled m maps lists constants
      → found_value m w lists constants b r
      ≡ given (polynomials m (w - 1)) maps (variables_of (w - 1) s) (reach w b d s) op
  pub sized : (m w : ℕ) (lists : List (List ℕ)) (constants b : List ℕ) (maps : List AffineMap)
      → Tabled m maps lists constants → found_size lists constants r ≡ raw_in m (w - 1) maps (reach w b d s) op
  pub fits : (w : ℕ) → s.begins * s.width < w → s.drawn < w → AllFit w d.top r
  pub small : d.top ≤ most_standing → RawAsked r
