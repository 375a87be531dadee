-- Arrays that `from_fn` made. Assumes nothing.
use mathlib.Core.Path.{◌≡◌, refl, sym, ap, ◌∙◌, subst}
use mathlib.Core.List.{List}
use Prim.Native.Nat.{ℕ, zero, suc, ◌+◌, ◌<◌}
use native.Mathlib.Omega.{arith}
use lib.ListN.{get_or}
use denote.Param.Members.{Mut, Called}
use Rattle.std.specs.Array.{IsFromFnResult, IsFromFnResultFrom}

-- where each call of a closure leaves it as it was and gives f at its number, so is the array that was made
module _ {A F : Type 0} (g : Mut F (ℕ × Unit {0}) A) (p : F) (f : ℕ → A) (d : A) (ys : List A)
    (pure : (i : ℕ) (y : A) (q : F) → Called g p (i, tt) y q → (q ≡ p) × (y ≡ f i)) where
  -- from the i-th place on
  made_from : (n i : ℕ) (s : F) → s ≡ p → IsFromFnResultFrom g s ys i n → (k : ℕ) → k < n
      → get_or ys (i + k) d ≡ f (i + k)
  made_from zero i s e r k l = absurd (omega arith)
  made_from (suc n) i s e r zero l =
      let u : i + 0 ≡ i = omega arith in
      ap (λ (j : ℕ). get_or ys j d) u ∙ r.2.1 d
      ∙ (pure i r.1 r.0 (subst (λ (x : F). Called g x (i, tt) r.1 r.0) e r.3)).1 ∙ ap f (sym u)
  made_from (suc n) i s e r (suc k) l =
      let u : i + suc k ≡ i + 1 + k = omega arith in
      ap (λ (j : ℕ). get_or ys j d) u
      ∙ made_from n (i + 1) r.0 (pure i r.1 r.0 (subst (λ (x : F). Called g x (i, tt) r.1 r.0) e r.3)).0 r.4 k
      (omega arith) ∙ ap f (sym u)

  -- each place
  pub made-at : (n : ℕ) → IsFromFnResult g p ys n → (k : ℕ) → k < n → get_or ys k d ≡ f k
  made-at n r k l =
      let u : 0 + k ≡ k = omega arith in
      ap (λ (j : ℕ). get_or ys j d) (sym u) ∙ made_from n 0 p refl r.each k l ∙ ap f u
