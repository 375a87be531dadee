-- Elements that were written come back from their entries. Assumes nothing.
use Prim.Native.Nat.{ℕ, zero, suc, ◌+◌, ◌≤◌, ◌<◌}
use mathlib.Core.Path.{◌≡◌, refl, ap, ◌∙◌}
use mathlib.Core.List.{List, [], ◌∷◌}
use native.Mathlib.Omega.{arith}
use lib.ListN.{length, get_or, set, length-set}
use lib.Seq.{get_or-set_same, get_or-set_other}
use Rattle.lookup.specs.Coded.{written}

module _ {A : Type 0} where
  -- entries in front stay
  written-front : (t : List A) (k : ℕ) (os : List A) (j : ℕ) (d : A) → j < k
      → get_or (written t k os) j d ≡ get_or t j d
  unfolding written
  written-front t k [] j d h = refl
  written-front t k (o ∷ os) j d h =
      written-front (set t k o) (k + 1) os j d (omega arith) ∙ get_or-set_other t k j o d (λ e. omega arith)

  -- the array keeps its size
  pub written-length : (t : List A) (k : ℕ) (os : List A) → length (written t k os) ≡ length t
  unfolding written
  written-length t k [] = refl
  written-length t k (o ∷ os) = written-length (set t k o) (k + 1) os ∙ length-set t k o

  -- each element that was written comes back from its entry
  pub written_back : (t : List A) (k : ℕ) (os : List A) → k + length os ≤ length t → (d : A)
      → (i : ℕ) → i < length os → get_or (written t k os) (k + i) d ≡ get_or os i d
  unfolding written
  written_back t k [] h d i l = absurd (omega arith)
  written_back t k (o ∷ os) h d zero l =
      let e : k + 0 ≡ k = omega arith in
      ap (λ (j : ℕ). get_or (written (set t k o) (k + 1) os) j d) e
      ∙ written-front (set t k o) (k + 1) os k d (omega arith)
      ∙ get_or-set_same t k o d (omega arith)
  written_back t k (o ∷ os) h d (suc i) l =
      let e : k + suc i ≡ k + 1 + i = omega arith in
      ap (λ (j : ℕ). get_or (written (set t k o) (k + 1) os) j d) e
      ∙ written_back (set t k o) (k + 1) os (omega (arith, length-set t k o)) d i (omega arith)
