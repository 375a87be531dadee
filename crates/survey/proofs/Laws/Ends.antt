-- What stands where a walk begins and where it ends.
-- Assumes nothing.
use mathlib.Core.Path.{◌≡◌, sym, ap, ◌∙◌}
use Prim.Native.Nat.{ℕ, ◌-◌}
use native.Mathlib.Omega.{arith}
use mathlib.Core.List.{List, [], ◌++◌, append-nil}
use lib.ListN.{drop}
use lib.Seq.{drop-length}
use Rattle.poly.specs.Poly.{Poly}
use Rattle.rules.specs.declared.types.Statement.{Statement}
use Rattle.rules.specs.declared.types.AffineMap.{AffineMap}
use Rattle.verdict.specs.Meaning.{values}
use Rattle.verdict.specs.Instances.{polynomials}
use Rattle.values.specs.declared.shelf.Shelf.{Shelf}
use Rattle.values.specs.declared.source.Scope.{Scope}
use Rattle.values.specs.Shelf.{stored, value_of}
use Rattle.values.specs.Source.{beginning, variables_of, visible, reach}
use Rattle.survey.specs.Walk.{top_in, part, Holds}
use Rattle.verdict.proofs.Laws.Lists.{length-tabulate}

-- where a block begins, its statements may read what it begins with
pub reach-start : (w : ℕ) (b : List ℕ) (d : Shelf) (s : Scope) → s.base ≡ d.count
    → reach w b d s ≡ beginning (w - 1) s
unfolding visible stored
reach-start w b d s e =
    ap (λ (l : List Poly). beginning (w - 1) s ++ l)
    (ap (λ (k : ℕ). drop k (stored w b d)) (e ∙ sym (length-tabulate d.count (value_of w b d)))
    ∙ drop-length (stored w b d))
    ∙ append-nil (beginning (w - 1) s)

-- where a block ends, all its values stand, and what stands is what the rules count
module _ {m : ℕ} {maps : List AffineMap} {statements : List Statement} {from to : ℕ} {s : Scope} {d₀ : Shelf}
    {left₀ : List ℕ} {w most : ℕ}
    {left : List ℕ} {d : Shelf} (H : Holds m maps statements from to s d₀ left₀ w most to left d) where
  none_left : part statements to to ≡ []
  none_left = let e : to - to ≡ 0 = omega arith in rw e

  -- the values of the block
  pub walk-values : reach w left d s
      ≡ values (polynomials m (w - 1)) maps (variables_of (w - 1) s) (reach w left₀ d₀ s) (part statements from to)
  unfolding values
  walk-values = sym (ap (values (polynomials m (w - 1)) maps (variables_of (w - 1) s) (reach w left d s)) none_left)
      ∙ H.rest

  -- what stands
  pub walk_top : d.top ≡ top_in m (w - 1) maps (variables_of (w - 1) s) (reach w left₀ d₀ s) d₀.top
      (part statements from to)
  unfolding top_in
  walk_top = sym (ap (top_in m (w - 1) maps (variables_of (w - 1) s) (reach w left d s) d.top) none_left) ∙ H.stands
