-- A test that antt computes at each number below a bound, and the rule that it gives.
-- Assumes nothing.
use mathlib.Core.Path.{◌≡◌, subst⁻¹}
use mathlib.Core.Bool.{Bool, true, false}
use Prim.Native.Nat.{ℕ, zero, suc, ◌<◌}
use native.Mathlib.Nat.{le_of_suc-le-suc, not-suc-le-zero}
use native.Mathlib.Decide.{ℕ_discrete}
use lib.Arith.{lt_of_le-ne}
use lib.Dec.{T, eqb, eqb→eq}

-- both tests pass
abbrev pub both : Bool → Bool → Bool
both true b = b
both false b = false

both_left : (a b : Bool) → T (both a b) → T a
both_left true b t = tt
both_left false b t = t

both_right : (a b : Bool) → T (both a b) → T b
both_right true b t = t
both_right false b t = absurd t

-- the test passes at each number below n
abbrev pub each : ℕ → (ℕ → Bool) → Bool
each zero f = true
each (suc n) f = both (f n) (each n f)

-- a test that passes at each number below n passes at i
pub each_at : (n : ℕ) (f : ℕ → Bool) → T (each n f) → (i : ℕ) → i < n → T (f i)
each_at zero f t i h = absurd (not-suc-le-zero h)
each_at (suc n) f t i h = go (ℕ_discrete i n) (each_at n f (both_right (f n) (each n f) t) i)
  where
    go : Dec (i ≡ n) → (i < n → T (f i)) → T (f i)
    go (yes e) ih = subst⁻¹ (λ (k : ℕ). T (f k)) e (both_left (f n) (each n f) t)
    go (no e) ih = ih (lt_of_le-ne (le_of_suc-le-suc h) e)

-- two functions with the same value at each number below n
pub same_at : (n : ℕ) (f g : ℕ → ℕ) → T (each n (λ i. eqb (f i) (g i))) → (i : ℕ) → i < n → f i ≡ g i
same_at n f g t i h = eqb→eq (f i) (g i) (each_at n (λ i. eqb (f i) (g i)) t i h)
