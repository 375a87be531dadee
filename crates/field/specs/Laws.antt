-- A field of 256 bytes: its two operations, and the laws that every crate above relies on. Nothing here says how it
-- multiplies.
-- What can hold of all numbers is asked of all numbers, so that no proof about polynomials carries bounds about.
-- Assumes nothing.
use Rattle.std.specs.Prelude.{◌≡◌, ◌≢◌, ℕ, ◌<◌}
use Rattle.field.specs.Xor.{◌⊕◌}
use Rattle.field.specs.Field.{times, power, squared}

-- the two operations of a field
pub record Ops : Type 0 where
  pub add : ℕ → ℕ → ℕ
  pub mul : ℕ → ℕ → ℕ

-- a commutative ring of bytes whose addition is its own inverse
pub record Ring (F : Ops) : Type 0 where
  pub add-byte : {a b : ℕ} → a < 256 → b < 256 → F.add a b < 256
  pub add_comm : (a b : ℕ) → F.add a b ≡ F.add b a
  pub add_assoc : (a b c : ℕ) → F.add (F.add a b) c ≡ F.add a (F.add b c)
  pub add-zero : (a : ℕ) → F.add a 0 ≡ a
  pub add_self : (a : ℕ) → F.add a a ≡ 0
  pub mul-byte : (a b : ℕ) → F.mul a b < 256
  pub mul_comm : (a b : ℕ) → F.mul a b ≡ F.mul b a
  pub mul_assoc : (a b c : ℕ) → F.mul (F.mul a b) c ≡ F.mul a (F.mul b c)
  pub distrib : (a b c : ℕ) → F.mul a (F.add b c) ≡ F.add (F.mul a b) (F.mul a c)
  pub one-mul : (a : ℕ) → a < 256 → F.mul 1 a ≡ a

-- the one record of laws: a ring in which no two nonzero bytes have the product zero, and a^256 is a
pub record Laws (F : Ops) : Type 0 where
  pub ring : Ring F
  pub no_zero : (a b : ℕ) → a < 256 → b < 256 → a ≢ 0 → F.mul a b ≡ 0 → b ≡ 0
  pub eight_squares : (a : ℕ) → a < 256 → squared F.mul 8 a ≡ a

-- bytes with ⊕ and some multiplication
abbrev pub over : (ℕ → ℕ → ℕ) → Ops
over mul = record { add = ◌⊕◌; mul = mul }

-- the field whose modulus has the low byte m
abbrev pub gf : ℕ → Ops
gf m = over (times m)

-- a step towards the laws: a byte other than 0 has a 255th power of 1, so its 254th is its inverse
pub record Periodic (mul : ℕ → ℕ → ℕ) : Type 0 where
  pub ring : Ring (over mul)
  pub period : (a : ℕ) → a < 256 → (a ≡ 0 → ⊥) → power mul a 255 ≡ 1
