-- Over any modulus the multiplication makes the bytes a commutative ring.
-- Multiplication is linear in each argument, so the laws are shown at powers of 2, which are 1 doubled again and again.
-- Assumes nothing.
use mathlib.Core.Path.{◌≡◌, refl, sym, ap, ap₂, ◌∙◌}
use Prim.Native.Nat.{ℕ, zero, suc, ◌*◌, ◌/◌, ◌%◌, ◌^◌, ◌<◌}
use native.Mathlib.Nat.{mod-eq_of_lt, zero-lt-suc, lt_trans, le_refl, le_of_suc-le-suc, not-suc-le-zero, zero-mul}
use native.Mathlib.Nat.{one-mul, pow-suc, mul-mod_left, mul-div_cancel, div-eq_of_lt}
use lib.Pow.{pow-lt}
use Rattle.field.specs.Xor.{◌⊕◌}
use Rattle.field.specs.Field.{double, shifted, times}
use Rattle.field.specs.Laws.{Ring, gf}
use Rattle.field.proofs.Laws.Xor.{⊕-comm, ⊕-assoc, ⊕_self, ⊕-zero, zero-⊕, ⊕_lt, bit}
use Rattle.field.proofs.Laws.Linear.{agree, after, at_zero}
use Rattle.field.proofs.Laws.Product.{double-spread, double_lt, double-bit, shifted-right, times-left}
use Rattle.field.proofs.Laws.Product.{times-right, times_lt, times-one}

-- a doubled j times
up : ℕ → ℕ → ℕ → ℕ
up m zero a = a
up m (suc j) a = double m (up m j a)

module _ (m : ℕ) where
  up_in : (j a : ℕ) → up m j (double m a) ≡ double m (up m j a)
  unfolding up
  up_in zero a = refl
  up_in (suc j) a = ap (double m) (up_in j a)

  up_swap : (i j a : ℕ) → up m i (up m j a) ≡ up m j (up m i a)
  unfolding up
  up_swap zero j a = refl
  up_swap (suc i) j a = ap (double m) (up_swap i j a) ∙ sym (up_in j (up m i a))

  -- 1 doubled i times
  up_one : (i : ℕ) → i < 8 → up m i 1 ≡ 2 ^ i
  unfolding up double
  up_one zero h = refl
  up_one (suc i) h =
      ap (double m) (up_one i (lt_trans (le_refl (suc i)) h))
      ∙ ap₂ ◌⊕◌ (ap (λ (x : ℕ). x % 2 * m) (div-eq_of_lt small)
      ∙ zero-mul m) (ap (λ (x : ℕ). x * 2) (mod-eq_of_lt small))
      ∙ zero-⊕ (2 ^ i * 2) ∙ sym (pow-suc 2 i)
    where
      small : 2 ^ i < 128
      small = pow-lt (le_of_suc-le-suc h)

  -- a product with a power of 2
  shifted-power : (n i a : ℕ) → i < n → shifted m n a (2 ^ i) ≡ up m i a
  unfolding shifted up
  shifted-power zero i a h = absurd (not-suc-le-zero h)
  shifted-power (suc n) zero a h =
      ap₂ ◌⊕◌ (one-mul a) (at_zero (shifted m n (double m a)) (shifted-right m n (double m a))) ∙ ⊕-zero a
  shifted-power (suc n) (suc i) a h =
      ap₂ ◌⊕◌ (ap (λ (x : ℕ). x % 2 * a) (pow-suc 2 i) ∙ ap (λ (x : ℕ). x * a) (mul-mod_left (2 ^ i) 2) ∙ zero-mul a)
      (ap (λ (x : ℕ). shifted m n (double m a) (x / 2)) (pow-suc 2 i)
      ∙ ap (shifted m n (double m a)) (mul-div_cancel (2 ^ i) (zero-lt-suc 1))
      ∙ shifted-power n i (double m a) (le_of_suc-le-suc h))
      ∙ zero-⊕ (up m i (double m a)) ∙ up_in i a

  times_power : (i a : ℕ) → i < 8 → a < 256 → times m a (2 ^ i) ≡ up m i a
  unfolding times
  times_power i a h l = shifted-power 8 i (a % 256) h ∙ ap (up m i) (mod-eq_of_lt l)

  -- doubling a factor doubles the product
  shifted-double : (n a b : ℕ) → shifted m n (double m a) b ≡ double m (shifted m n a b)
  unfolding shifted
  shifted-double zero a b = sym (at_zero (double m) (double-spread m))
  shifted-double (suc n) a b =
      ap₂ ◌⊕◌ (sym (double-bit m (b % 2) a (bit b))) (shifted-double n (double m a) (b / 2))
      ∙ sym (double-spread m (b % 2 * a) (shifted m n (double m a) (b / 2)))

  shifted_up : (n j a b : ℕ) → shifted m n (up m j a) b ≡ up m j (shifted m n a b)
  unfolding up
  shifted_up n zero a b = refl
  shifted_up n (suc j) a b = shifted-double n (up m j a) b ∙ ap (double m) (shifted_up n j a b)

  module _ (hm : m < 256) where
    up_lt : (j a : ℕ) → a < 256 → up m j a < 256
    unfolding up
    up_lt zero a h = h
    up_lt (suc j) a h = double_lt m (up m j a) hm

    times-up : (j a b : ℕ) → a < 256 → times m (up m j a) b ≡ up m j (times m a b)
    unfolding times
    times-up j a b h =
        ap (λ (x : ℕ). shifted m 8 x b) (mod-eq_of_lt (up_lt j a h)) ∙ shifted_up 8 j a b
        ∙ ap (λ (x : ℕ). up m j (shifted m 8 x b)) (sym (mod-eq_of_lt h))

    comm : (a b : ℕ) → times m a b ≡ times m b a
    comm a =
        agree (times-right m a) (times-left m a) (λ j hj.
        agree (times-left m (2 ^ j)) (times-right m (2 ^ j)) (λ i hi. at-powers i j hi hj) a)
      where
        at-powers : (i j : ℕ) → i < 8 → j < 8 → times m (2 ^ i) (2 ^ j) ≡ times m (2 ^ j) (2 ^ i)
        at-powers i j hi hj =
            times_power j (2 ^ i) hj (pow-lt hi) ∙ ap (up m j) (sym (up_one i hi)) ∙ up_swap j i 1
            ∙ ap (up m i) (up_one j hj)
            ∙ sym (times_power i (2 ^ j) hi (pow-lt hj))

    assoc : (a b c : ℕ) → times m (times m a b) c ≡ times m a (times m b c)
    assoc a b =
        agree (times-right m (times m a b)) (after (times-right m a) (times-right m b)) (λ k hk.
        agree (after (times-left m (2 ^ k)) (times-right m a)) (after (times-right m a) (times-left m (2 ^ k))) (λ j hj.
        at-powers j k hj hk) b)
      where
        at-powers : (j k : ℕ) → j < 8 → k < 8 → times m (times m a (2 ^ j)) (2 ^ k) ≡ times m a
            (times m (2 ^ j) (2 ^ k))
        at-powers j k hj hk =
            times_power k (times m a (2 ^ j)) hk (times_lt m a (2 ^ j) hm) ∙ ap (up m k) (comm a (2 ^ j))
            ∙ sym (times-up k (2 ^ j) a (pow-lt hj)) ∙ comm (up m k (2 ^ j)) a
            ∙ ap (times m a) (sym (times_power k (2 ^ j) hk (pow-lt hj)))

    -- the bytes are a commutative ring over every modulus
    pub ring : Ring (gf m)
    ring = record {
      add-byte = λ h k. ⊕_lt 8 h k;
      add_comm = ⊕-comm;
      add_assoc = ⊕-assoc;
      add-zero = ⊕-zero;
      add_self = ⊕_self;
      mul-byte = λ a b. times_lt m a b hm;
      mul_comm = comm;
      mul_assoc = assoc;
      distrib = λ a. (times-right m a).spread;
      one-mul = λ a h. comm 1 a ∙ times-one m a ∙ mod-eq_of_lt h;
    }
