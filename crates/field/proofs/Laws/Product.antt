-- The multiplication over any modulus is linear in each argument.
-- Assumes nothing.
use mathlib.Core.Path.{◌≡◌, refl, sym, ap, ap₂, ◌∙◌}
use Prim.Native.Nat.{ℕ, zero, suc, ◌+◌, ◌*◌, ◌/◌, ◌%◌, ◌^◌, ◌<◌}
use native.Mathlib.Nat.{mod-lt, one-mul, zero-mul, zero-lt-suc, mod-mod, pow-suc, add-zero}
use native.Mathlib.Omega.{arith}
use lib.Arith.{digits_div, digits_mod, mod-mul}
use lib.Bits.{bit_xor, xor_block}
use lib.Pow.{pow_pos}
use Rattle.field.specs.Xor.{◌⊕◌}
use Rattle.field.specs.Field.{double, shifted, times}
use Rattle.field.proofs.Laws.Xor.{⊕-zero, zero-⊕, ⊕_self, ⊕_swap, ⊕_lt, ⊕_shr, ⊕_mod, bit, bit_cases}
use Rattle.field.proofs.Laws.Linear.{Linear, at_zero}

-- ---- a bit times a number

bits-spread : (c x y : ℕ) → x < 2 → y < 2 → (x ⊕ y) * c ≡ x * c ⊕ y * c
bits-spread c x y hx hy =
    bit_cases (λ x. (x ⊕ y) * c ≡ x * c ⊕ y * c)
    (simp (zero-⊕, zero-mul))
    (bit_cases (λ y. (1 ⊕ y) * c ≡ 1 * c ⊕ y * c) (simp (⊕-zero, zero-mul)) (simp (⊕_self, zero-mul)) y hy) x hx

-- the bit of a sum, times c
pub bit-spread : (c a b : ℕ) → (a ⊕ b) % 2 * c ≡ a % 2 * c ⊕ b % 2 * c
bit-spread c a b = ap (λ (x : ℕ). x * c) (⊕_mod 1 a b) ∙ bits-spread c (a % 2) (b % 2) (bit a) (bit b)

-- a bit times a number below a power of 2 is below it
pub bit-times : (c k x : ℕ) → x < 2 → c < 2 ^ k → x * c < 2 ^ k
bit-times c k x h l = bit_cases (λ x. x * c < 2 ^ k) (rw zero-mul (pow_pos k)) (rw one-mul l) x h

-- ---- doubling

twice-spread : (a b : ℕ) → (a ⊕ b) * 2 ≡ a * 2 ⊕ b * 2
unfolding ◌⊕◌
twice-spread a b =
    sym (add-zero (bit_xor a b * 2)) ∙ sym (xor_block 1 a b 0 0 (pow_pos 1) (pow_pos 1))
    ∙ ap₂ bit_xor (add-zero (a * 2)) (add-zero (b * 2))

-- doubling takes sums to sums
pub double-spread : (m a b : ℕ) → double m (a ⊕ b) ≡ double m a ⊕ double m b
unfolding double
double-spread m a b =
    ap₂ ◌⊕◌ (ap (λ (x : ℕ). x % 2 * m) (⊕_shr 7 a b) ∙ bit-spread m (a / 128) (b / 128))
    (ap (λ (x : ℕ). x * 2) (⊕_mod 7 a b) ∙ twice-spread (a % 128) (b % 128))
    ∙ ⊕_swap (a / 128 % 2 * m) (b / 128 % 2 * m) (a % 128 * 2) (b % 128 * 2)

-- doubling a bit times a number
pub double-bit : (m x a : ℕ) → x < 2 → double m (x * a) ≡ x * double m a
double-bit m x a =
    bit_cases (λ x. double m (x * a) ≡ x * double m a)
    (ap (double m) (zero-mul a) ∙ at_zero (double m) (double-spread m) ∙ sym (zero-mul (double m a)))
    (ap (double m) (one-mul a) ∙ sym (one-mul (double m a))) x

-- a double is a byte
pub double_lt : (m a : ℕ) → m < 256 → double m a < 256
unfolding double
double_lt m a h = ⊕_lt 8 (bit-times m 8 (a / 128 % 2) (bit (a / 128)) h) (omega arith)

-- ---- the product

-- the product is additive in its second factor, digit by digit
pub shifted-right : (m n a b c : ℕ) → shifted m n a (b ⊕ c) ≡ shifted m n a b ⊕ shifted m n a c
unfolding shifted
shifted-right m zero a b c = sym (⊕_self 0)
shifted-right m (suc n) a b c =
    ap₂ ◌⊕◌ (bit-spread a b c)
    (ap (shifted m n (double m a)) (⊕_shr 1 b c) ∙ shifted-right m n (double m a) (b / 2) (c / 2))
    ∙ ⊕_swap (b % 2 * a) (c % 2 * a) (shifted m n (double m a) (b / 2)) (shifted m n (double m a) (c / 2))

bit-right : (x a b : ℕ) → x < 2 → x * (a ⊕ b) ≡ x * a ⊕ x * b
bit-right x a b h = bit_cases (λ x. x * (a ⊕ b) ≡ x * a ⊕ x * b) (simp (zero-mul, ⊕_self)) (simp one-mul) x h

shifted-left : (m n a b c : ℕ) → shifted m n (a ⊕ b) c ≡ shifted m n a c ⊕ shifted m n b c
unfolding shifted
shifted-left m zero a b c = sym (⊕_self 0)
shifted-left m (suc n) a b c =
    ap₂ ◌⊕◌ (bit-right (c % 2) a b (bit c))
    (ap (λ x. shifted m n x (c / 2)) (double-spread m a b) ∙ shifted-left m n (double m a) (double m b) (c / 2))
    ∙ ⊕_swap (c % 2 * a) (c % 2 * b) (shifted m n (double m a) (c / 2)) (shifted m n (double m b) (c / 2))

shifted-low : (m n a b : ℕ) → shifted m n a (b % 2 ^ n) ≡ shifted m n a b
unfolding shifted
shifted-low m zero a b = refl
shifted-low m (suc n) a b =
    ap₂ (λ (x y : ℕ). x * a ⊕ shifted m n (double m a) y)
    (ap (λ (x : ℕ). x % 2) cut ∙ digits_mod (b / 2 % 2 ^ n) (bit b))
    (ap (λ (x : ℕ). x / 2) cut ∙ digits_div (b / 2 % 2 ^ n) (bit b))
    ∙ ap (λ x. b % 2 * a ⊕ x) (shifted-low m n (double m a) (b / 2))
  where
    cut : b % 2 ^ suc n ≡ b / 2 % 2 ^ n * 2 + b % 2
    cut = ap (λ (x : ℕ). b % x) (pow-suc 2 n) ∙ mod-mul b (pow_pos n) (zero-lt-suc 1)

shifted_lt : (m n a b : ℕ) → m < 256 → a < 256 → shifted m n a b < 256
unfolding shifted
shifted_lt m zero a b hm ha = pow_pos 8
shifted_lt m (suc n) a b hm ha =
    ⊕_lt 8 (bit-times a 8 (b % 2) (bit b) ha) (shifted_lt m n (double m a) (b / 2) hm (double_lt m a hm))

-- a product is linear in its second factor
pub times-right : (m a : ℕ) → Linear (times m a)
unfolding times
times-right m a = record { spread = shifted-right m 8 (a % 256); low = shifted-low m 8 (a % 256) }

-- and in its first
pub times-left : (m b : ℕ) → Linear (λ a. times m a b)
unfolding times
times-left m b = record {
  spread = λ a c. ap (λ x. shifted m 8 x b) (⊕_mod 8 a c) ∙ shifted-left m 8 (a % 256) (c % 256) b;
  low = λ a. ap (λ x. shifted m 8 x b) (mod-mod a 256);
}

-- a product is a byte
pub times_lt : (m a b : ℕ) → m < 256 → times m a b < 256
unfolding times
times_lt m a b h = shifted_lt m 8 (a % 256) b h (mod-lt a (pow_pos 8))

-- a product with 1 is the low byte
pub times-one : (m a : ℕ) → times m a 1 ≡ a % 256
unfolding times shifted
times-one m a =
    ap₂ ◌⊕◌ (one-mul (a % 256)) (at_zero (shifted m 7 (double m (a % 256))) (shifted-right m 7 (double m (a % 256))))
    ∙ ⊕-zero (a % 256)
