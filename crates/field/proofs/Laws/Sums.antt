-- Sums over the numbers below n, and lists of values.
-- Assumes nothing.
use mathlib.Core.Path.{◌≡◌, refl, sym, ap, ap₂, ◌∙◌, subst}
use mathlib.Core.List.{List}
use Prim.Native.Nat.{ℕ, zero, suc, ◌<◌}
use native.Mathlib.Nat.{le_refl, lt_trans, le_of_suc-le-suc, not-suc-le-zero}
use native.Mathlib.Decide.{ℕ_discrete}
use native.Mathlib.Omega.{arith}
use lib.Arith.{lt_of_le-ne}
use lib.Dec.{lit<}
use lib.ListN.{length, get_or}
use lib.Seq.{ext_get_or}
use Rattle.field.specs.Xor.{◌⊕◌}
use Rattle.field.specs.Laws.{Ring, over}
use Rattle.field.specs.Maps.{sum, list_of}
use Rattle.field.proofs.Laws.Xor.{⊕_self, ⊕_swap, ⊕-left-comm, ⊕-zero, zero-⊕, ⊕_lt}
use Rattle.field.proofs.Laws.Algebra.{mul-zero, mul-one}

below : {i n : ℕ} → i < n → i < suc n
below {n = n} h = lt_trans h (le_refl (suc n))

-- equal terms give equal sums
pub sum_cong : (n : ℕ) {f g : ℕ → ℕ} → ((i : ℕ) → i < n → f i ≡ g i) → sum n f ≡ sum n g
unfolding sum
sum_cong zero h = refl
sum_cong (suc n) h = ap₂ ◌⊕◌ (h n (le_refl (suc n))) (sum_cong n (λ i l. h i (below l)))

-- a sum of zeros is 0
pub sum-zero : (n : ℕ) → sum n (λ i. 0) ≡ 0
unfolding sum
sum-zero zero = refl
sum-zero (suc n) = zero-⊕ (sum n (λ i. 0)) ∙ sum-zero n

-- a sum of sums
pub sum-spread : (n : ℕ) (f g : ℕ → ℕ) → sum n (λ i. f i ⊕ g i) ≡ sum n f ⊕ sum n g
unfolding sum
sum-spread zero f g = sym (⊕_self 0)
sum-spread (suc n) f g = ap (λ x. f n ⊕ g n ⊕ x) (sum-spread n f g) ∙ ⊕_swap (f n) (g n) (sum n f) (sum n g)

-- a double sum in either order
pub sum_swap : (n k : ℕ) (f : ℕ → ℕ → ℕ) → sum n (λ i. sum k (f i)) ≡ sum k (λ j. sum n (λ i. f i j))
unfolding sum
sum_swap zero k f = sym (sum-zero k)
sum_swap (suc n) k f = ap (λ x. sum k (f n) ⊕ x) (sum_swap n k f) ∙ sym (sum-spread k (f n) (λ j. sum n (λ i. f i j)))

-- a function that takes sums to sums
pub sum-map : (h : ℕ → ℕ) → ((a b : ℕ) → h (a ⊕ b) ≡ h a ⊕ h b) → (n : ℕ) (f : ℕ → ℕ)
    → h (sum n f) ≡ sum n (λ i. h (f i))
unfolding sum
sum-map h s zero f = ap h (sym (⊕_self 0)) ∙ s 0 0 ∙ ⊕_self (h 0)
sum-map h s (suc n) f = s (f n) (sum n f) ∙ ap (λ x. h (f n) ⊕ x) (sum-map h s n f)

-- the first term apart
pub sum_first : (n : ℕ) (f : ℕ → ℕ) → sum (suc n) f ≡ f 0 ⊕ sum n (λ i. f (suc i))
unfolding sum
sum_first zero f = refl
sum_first (suc n) f = ap (λ x. f (suc n) ⊕ x) (sum_first n f) ∙ ⊕-left-comm (f (suc n)) (f 0) (sum n (λ i. f (suc i)))

-- a sum of bytes is a byte
pub sum_lt : (n : ℕ) (f : ℕ → ℕ) → ((i : ℕ) → i < n → f i < 256) → sum n f < 256
unfolding sum
sum_lt zero f h = lit< tt
sum_lt (suc n) f h = ⊕_lt 8 (h n (le_refl (suc n))) (sum_lt n f (λ i l. h i (below l)))

-- ---- one at its own place, zero at the others

-- one where both are the same, else zero
abbrev pub delta : ℕ → ℕ → ℕ
delta zero zero = 1
delta zero (suc k) = 0
delta (suc i) zero = 0
delta (suc i) (suc k) = delta i k

-- at its own place
pub delta_self : (i : ℕ) → delta i i ≡ 1
delta_self zero = refl
delta_self (suc i) = delta_self i

-- at another place
pub delta-other : (i k : ℕ) → (i ≡ k → ⊥) → delta i k ≡ 0
delta-other zero zero h = absurd (h refl)
delta-other zero (suc k) h = refl
delta-other (suc i) zero h = refl
delta-other (suc i) (suc k) h = delta-other i k (λ e. h (ap suc e))

-- ---- with the multiplication

module _ {mul : ℕ → ℕ → ℕ} (R : Ring (over mul)) where
  -- a factor goes into a sum
  pub mul-sum : (n a : ℕ) (f : ℕ → ℕ) → mul a (sum n f) ≡ sum n (λ i. mul a (f i))
  mul-sum n a = sum-map (mul a) (R.distrib a) n

  -- on the other side too
  pub sum-mul : (n a : ℕ) (f : ℕ → ℕ) → mul (sum n f) a ≡ sum n (λ i. mul (f i) a)
  sum-mul n a f = R.mul_comm (sum n f) a ∙ mul-sum n a f ∙ sum_cong n (λ i l. R.mul_comm a (f i))

  none : (n j : ℕ) (f : ℕ → ℕ) → ((i : ℕ) → i < n → i ≡ j → ⊥) → sum n (λ i. mul (f i) (delta i j)) ≡ 0
  none n j f h = sum_cong n (λ i l. ap (mul (f i)) (delta-other i j (h i l)) ∙ mul-zero R (f i)) ∙ sum-zero n

  -- the sum has one term that counts
  pub sum-pick : (n j : ℕ) (f : ℕ → ℕ) → j < n → f j < 256 → sum n (λ i. mul (f i) (delta i j)) ≡ f j
  unfolding sum
  sum-pick zero j f h b = absurd (not-suc-le-zero h)
  sum-pick (suc n) j f h b = go (ℕ_discrete j n) (λ l. sum-pick n j f l b)
    where
      go : Dec (j ≡ n) → (j < n → sum n (λ i. mul (f i) (delta i j)) ≡ f j)
          → sum (suc n) (λ i. mul (f i) (delta i j)) ≡ f j
      go (yes e) ih =
          ap₂ ◌⊕◌ (ap (λ i. mul (f i) (delta i j)) (sym e) ∙ ap (mul (f j)) (delta_self j) ∙ mul-one R (f j) b)
          (none n j f (λ i l p. omega arith))
          ∙ ⊕-zero (f j)
      go (no e) ih =
          ap₂ ◌⊕◌ (ap (mul (f n)) (delta-other n j (λ p. e (sym p)))
          ∙ mul-zero R (f n)) (ih (lt_of_le-ne (le_of_suc-le-suc h) e))
          ∙ zero-⊕ (f j)

-- ---- lists of values

module _ {A : Type 0} where
  -- a list of n values has n entries
  pub length-list_of : (n : ℕ) (f : ℕ → A) → length (list_of n f) ≡ n
  unfolding list_of
  length-list_of zero f = refl
  length-list_of (suc n) f = ap suc (length-list_of n (λ i. f (suc i)))

  -- each entry is its value
  pub get_d_list_of : (n : ℕ) (f : ℕ → A) (d : A) (i : ℕ) → i < n → get_or (list_of n f) i d ≡ f i
  unfolding list_of
  get_d_list_of zero f d i h = absurd (not-suc-le-zero h)
  get_d_list_of (suc n) f d zero h = refl
  get_d_list_of (suc n) f d (suc i) h = get_d_list_of n (λ k. f (suc k)) d i (le_of_suc-le-suc h)

  -- a list with every value at its place
  pub fill_done : (n : ℕ) (f : ℕ → A) (d : A) (l : List A) → length l ≡ n → ((k : ℕ) → k < n → get_or l k d ≡ f k)
      → l ≡ list_of n f
  fill_done n f d l e all =
      ext_get_or d l (list_of n f) (e ∙ sym (length-list_of n f)) (λ i h.
      let b : i < n = subst (λ (k : ℕ). i < k) e h in
      all i b ∙ sym (get_d_list_of n f d i b))
