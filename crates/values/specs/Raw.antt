-- A statement's raw size from the sizes of its operands, and the maps' coefficients in a table.
-- Assumes nothing.
use Rattle.std.specs.Prelude.{◌≡◌, ℕ, ◌+◌, ◌*◌, ◌-◌, ◌≤◌, ◌<◌, List, [], length, get_or}
use Rattle.field.specs.Maps.{coefficients_of}
use Rattle.poly.specs.Poly.{Poly}
use Rattle.rules.specs.declared.types.Operand.{Operand}
use Rattle.rules.specs.declared.types.Op.{Op}
use Rattle.rules.specs.declared.types.Op.TheVariants.{Set, Xor, Mul, App, Rand}
use Rattle.rules.specs.declared.types.AffineMap.{AffineMap}
use Rattle.verdict.specs.Meaning.{map_at, operand}
use Rattle.verdict.specs.Instances.{polynomials}
use Rattle.verdict.specs.Count.{apply_size}
use Rattle.values.specs.declared.shelf.Shelf.{Shelf}
use Rattle.values.specs.declared.source.Scope.{Scope}
use Rattle.values.specs.Source.{reach}

-- the most terms that stand
abbrev pub most_standing : ℕ
most_standing = 3840

-- `Count.raw_size`, over the modulus m, n powers and the maps
unfoldable pub raw_in : (m n : ℕ) → List AffineMap → List Poly → Op → ℕ
raw_in m n maps vs (Set a) = length (operand (polynomials m n) vs a)
raw_in m n maps vs (Xor a b) = length (operand (polynomials m n) vs a) + length (operand (polynomials m n) vs b)
raw_in m n maps vs (Mul a b) = length (operand (polynomials m n) vs a) * length (operand (polynomials m n) vs b)
raw_in m n maps vs (App f a) = apply_size m (map_at maps f) (length (operand (polynomials m n) vs a))
raw_in m n maps vs (Rand v) = 1

-- the coefficients and constants of the maps, eight places
pub record Tabled (m : ℕ) (maps : List AffineMap) (lists : List (List ℕ)) (constants : List ℕ) : Type 0 where
  pub coefficients : (f : ℕ) → f < 8 → get_or lists f [] ≡ coefficients_of m (map_at maps f).columns
  pub constant : (f : ℕ) → f < 8 → get_or constants f 0 ≡ (map_at maps f).constant

-- a map that is applied has a place in the table, and a variable that is drawn is one of the first `drawn`
abbrev pub Inside : (drawn : ℕ) → Op → Type 0
Inside drawn (Set a) = Unit {0}
Inside drawn (Xor a b) = Unit {0}
Inside drawn (Mul a b) = Unit {0}
Inside drawn (App f a) = f < 8
Inside drawn (Rand v) = v < drawn

-- the number of terms of an operand, in every buffer with this directory
pub record OperandSized (s : Scope) (d : Shelf) (a : Operand) (k : ℕ) : Type 0 where
  pub means : (m w : ℕ) (b : List ℕ) → k ≡ length (operand (polynomials m (w - 1)) (reach w b d s) a)
  pub most : k ≤ most_standing
