-- Linear functions on bytes: two that agree at 1, 2, 4, .. 128 agree everywhere.
-- Assumes nothing.
use mathlib.Core.Path.{◌≡◌, sym, ap, ap₂, ◌∙◌, subst}
use Prim.Native.Nat.{ℕ, zero, suc, ◌*◌, ◌/◌, ◌%◌, ◌^◌, ◌<◌}
use native.Mathlib.Nat.{mod-lt, div-lt_iff_lt-mul, zero-mul, one-mul, pow-suc, le_refl, lt_trans, mul_comm}
use lib.Arith.{lt-one}
use lib.Pow.{pow_pos, split}
use Rattle.field.specs.Xor.{◌⊕◌}
use Rattle.field.proofs.Laws.Xor.{⊕_self, zero-⊕, ⊕-split, bit_cases}

-- it takes sums to sums, and reads the low byte only
pub record Linear (f : ℕ → ℕ) : Type 0 where
  pub spread : (a b : ℕ) → f (a ⊕ b) ≡ f a ⊕ f b
  pub low : (a : ℕ) → f (a % 256) ≡ f a

-- what takes sums to sums takes 0 to 0
pub at_zero : (f : ℕ → ℕ) → ((a b : ℕ) → f (a ⊕ b) ≡ f a ⊕ f b) → f 0 ≡ 0
at_zero f s = ap f (sym (zero-⊕ 0)) ∙ s 0 0 ∙ ⊕_self (f 0)

-- a number is its digits above k and its k low digits
parts : (k a : ℕ) → a ≡ a / 2 ^ k * 2 ^ k ⊕ a % 2 ^ k
parts k a = sym (split a k) ∙ sym (⊕-split (a / 2 ^ k) k (a % 2 ^ k) (mod-lt a (pow_pos k)))

module _ (f g : ℕ → ℕ) (sf : (a b : ℕ) → f (a ⊕ b) ≡ f a ⊕ f b) (sg : (a b : ℕ) → g (a ⊕ b) ≡ g a ⊕ g b) where
  top : (k : ℕ) → f (2 ^ k) ≡ g (2 ^ k) → (q : ℕ) → q < 2 → f (q * 2 ^ k) ≡ g (q * 2 ^ k)
  top k e =
      bit_cases (λ (q : ℕ). f (q * 2 ^ k) ≡ g (q * 2 ^ k))
      (ap f (zero-mul (2 ^ k)) ∙ at_zero f sf ∙ sym (at_zero g sg) ∙ ap g (sym (zero-mul (2 ^ k))))
      (ap f (one-mul (2 ^ k)) ∙ e ∙ ap g (sym (one-mul (2 ^ k))))

  agree-below : (k : ℕ) → ((i : ℕ) → i < k → f (2 ^ i) ≡ g (2 ^ i)) → (a : ℕ) → a < 2 ^ k → f a ≡ g a
  agree-below zero h a l = ap f (lt-one l) ∙ at_zero f sf ∙ sym (at_zero g sg) ∙ ap g (sym (lt-one l))
  agree-below (suc k) h a l =
      ap f (parts k a) ∙ sf (a / 2 ^ k * 2 ^ k) (a % 2 ^ k)
      ∙ ap₂ ◌⊕◌
      (top k (h k (le_refl (suc k))) (a / 2 ^ k)
      ((div-lt_iff_lt-mul (pow_pos k)).1 (subst (λ (x : ℕ). a < x) (pow-suc 2 k ∙ mul_comm (2 ^ k) 2) l)))
      (agree-below k (λ i hi. h i (lt_trans hi (le_refl (suc k)))) (a % 2 ^ k) (mod-lt a (pow_pos k)))
      ∙ sym (sg (a / 2 ^ k * 2 ^ k) (a % 2 ^ k)) ∙ ap g (sym (parts k a))

-- the same for functions that need not be linear above 255
pub agree-byte : (f g : ℕ → ℕ) → ((a b : ℕ) → f (a ⊕ b) ≡ f a ⊕ f b) → ((a b : ℕ) → g (a ⊕ b) ≡ g a ⊕ g b)
    → ((i : ℕ) → i < 8 → f (2 ^ i) ≡ g (2 ^ i)) → (a : ℕ) → a < 256 → f a ≡ g a
agree-byte f g sf sg = agree-below f g sf sg 8

-- two linear functions that agree at the eight powers of 2 are the same
pub agree : {f g : ℕ → ℕ} → Linear f → Linear g → ((i : ℕ) → i < 8 → f (2 ^ i) ≡ g (2 ^ i)) → (a : ℕ) → f a ≡ g a
agree {f} {g} F G h a =
    sym (F.low a) ∙ agree-below f g F.spread G.spread 8 h (a % 256) (mod-lt a (pow_pos 8)) ∙ G.low a

-- ---- functions that are linear

-- one linear function after another is linear
pub after : {f g : ℕ → ℕ} → Linear g → Linear f → Linear (λ a. g (f a))
after {f} {g} G F = record {
  spread = λ a b. ap g (F.spread a b) ∙ G.spread (f a) (f b);
  low = λ a. ap g (F.low a);
}
