-- What the two blocks begin with: an input of the origin block is the sum of its shares' variables, each share is a
-- variable.
-- Assumes nothing.
use mathlib.Core.Path.{◌≡◌, sym, ap, ap₂, ◌∙◌}
use Prim.Native.Nat.{ℕ, zero, suc, ◌+◌, ◌*◌, ◌≤◌}
use native.Mathlib.Omega.{arith}
use native.Mathlib.Nat.{zero-add, suc-mul, mul-one, zero-mul}
use mathlib.Core.List.{List, ◌++◌, map}
use lib.ListN.{take, drop}
use lib.Seq.{take-add}
use Rattle.poly.specs.Poly.{units, variable}
use Rattle.verdict.specs.Lists.{tabulate, lots, behind, poured}
use Rattle.verdict.specs.Meaning.{joined}
use Rattle.verdict.specs.Instances.{polynomials}
use Rattle.verdict.proofs.Laws.Lists.{lots-behind}
use Rattle.verdict.proofs.Laws.Begins.{tabulate-same, tabulate-take, inputs-from}
use Rattle.values.specs.declared.source.Scope.{Scope}
use Rattle.values.specs.Source.{beginning, variables_of}

-- ---- the lots of a list

module _ {X : Type 0} where
  poured-lots : (k c : ℕ) (xs : List X) → poured (lots k c xs) ≡ take (c * k) xs
  poured-lots k zero xs = ap (λ (x : ℕ). take x xs) (sym (zero-mul k))
  poured-lots k (suc c) xs =
      let e : k + c * k ≡ suc c * k = omega (arith, suc-mul c k) in
      ap (λ (l : List X). take k xs ++ l) (poured-lots k c (drop k xs)) ∙ sym (take-add k (c * k) xs)
      ∙ ap (λ (x : ℕ). take x xs) e

-- ---- both blocks

module _ (m n v k : ℕ) (h : v ≤ n) where
  -- the inputs
  pub origin_begins : (s : Scope) → s.width ≡ k → s.begins * k ≤ v
      → beginning n s ≡ map (joined (polynomials m n)) (lots k s.begins (tabulate v (variable n)))
  unfolding beginning
  origin_begins s e l =
      ap (λ (x : ℕ). tabulate s.begins (λ i. units n (i * x) x)) e
      ∙ sym (inputs-from m n v k h s.begins 0 (omega arith)
      ∙ tabulate-same s.begins (λ i. units n (0 + i * k) k) (λ i. units n (i * k) k)
      (λ i q. ap (λ (x : ℕ). units n x k) (zero-add (i * k))))

  -- the shares
  pub masked_begins : (c : ℕ) (s : Scope) → s.width ≡ 1 → s.begins ≡ c * k → c * k ≤ v
      → beginning n s ≡ poured (lots k c (tabulate v (variable n)))
  unfolding beginning
  masked_begins c s e g l =
      ap₂ (λ (x y : ℕ). tabulate y (λ i. units n (i * x) x)) e g
      ∙ tabulate-same (c * k) (λ i. units n (i * 1) 1) (variable n) (λ i q. ap (variable n) (mul-one i))
      ∙ sym (poured-lots k c (tabulate v (variable n)) ∙ tabulate-take (variable n) v (c * k) l)

  -- the variables of the masked block are all of them
  pub masked-variables : (c : ℕ) (s : Scope) → s.drawn ≡ v
      → variables_of n s ≡ poured (lots k c (tabulate v (variable n))) ++ behind k c (tabulate v (variable n))
  unfolding variables_of
  masked-variables c s e = ap (λ (x : ℕ). tabulate x (variable n)) e ∙ sym (lots-behind k c (tabulate v (variable n)))
