-- The values of a function in a row: at a place, past the last, and one more.
-- Assumes nothing.
use mathlib.Core.Path.{◌≡◌, refl, ap, ◌∙◌}
use Prim.Native.Nat.{ℕ, zero, suc, ◌+◌, ◌≤◌, ◌<◌}
use native.Mathlib.Omega.{arith}
use native.Mathlib.Numerals.{add-one}
use native.Mathlib.Nat.{le_of_suc-le-suc}
use mathlib.Core.List.{List, [], ◌∷◌, ◌++◌}
use lib.ListN.{get_or, get_or-eq_default}
use Rattle.verdict.specs.Lists.{tabulate}
use Rattle.verdict.proofs.Laws.Lists.{length-tabulate}

module _ {X : Type 0} where
  -- the value at a place
  pub tabulate-at : (n : ℕ) (f : ℕ → X) (i : ℕ) (d : X) → i < n → get_or (tabulate n f) i d ≡ f i
  tabulate-at zero f i d h = absurd (omega arith)
  tabulate-at (suc n) f zero d h = refl
  tabulate-at (suc n) f (suc i) d h = tabulate-at n (λ j. f (suc j)) i d (le_of_suc-le-suc h)

  -- past the last
  pub tabulate-past : (n : ℕ) (f : ℕ → X) (i : ℕ) (d : X) → n ≤ i → get_or (tabulate n f) i d ≡ d
  tabulate-past n f i d h = get_or-eq_default (tabulate n f) d (omega (arith, length-tabulate n f))

  more : (n : ℕ) (f : ℕ → X) → tabulate (suc n) f ≡ tabulate n f ++ f n ∷ []
  more zero f = refl
  more (suc n) f = ap {B = List X} (λ l. f 0 ∷ l) (more n (λ i. f (suc i)))

  -- one value more
  pub tabulate-more : (n : ℕ) (f : ℕ → X) → tabulate (n + 1) f ≡ tabulate n f ++ f n ∷ []
  tabulate-more n f = ap (λ (k : ℕ). tabulate k f) (add-one n) ∙ more n f
