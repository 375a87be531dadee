-- The line at which a routine is given up, by the two walks and the last step.
-- Assumes nothing.
use mathlib.Core.Path.{◌≡◌, sym, ap, ◌∙◌}
use Prim.Native.Nat.{ℕ, ◌+◌, ◌*◌}
use native.Mathlib.Nat.{zero-add, add-zero}
use mathlib.Core.Bool.{cond}
use mathlib.Core.List.{List, [], ◌∷◌, ◌++◌, append_assoc}
use Rattle.std.specs.Prelude.{None as none, Some as some}
use lib.Dec.{ltb}
use lib.ListN.{length}
use Rattle.poly.specs.Poly.{Poly}
use Rattle.rules.specs.Read.{Routine}
use Rattle.verdict.specs.Meaning.{Trace, values}
use Rattle.verdict.specs.Instances.{polynomials, modulus_of, powers_of}
use Rattle.verdict.specs.Count.{Step, block_steps, last_step, steps, standing, most_terms, first_over, unknown_line}
use Rattle.survey.specs.Walk.{over_in, top_in}
use Rattle.survey.proofs.Laws.Counting.{or_else, above, first-same, over-block}

module _ (r : Routine) (t : Trace Poly) (xs ys us vs : List Poly) where
  abbrev m : ℕ
  m = modulus_of r

  abbrev n : ℕ
  n = powers_of r

  -- what stands after the origin block, and after both
  abbrev pub first : ℕ
  first = top_in m n r.maps xs us 0 r.origin

  -- what stands after both blocks
  abbrev pub second : ℕ
  second = top_in m n r.maps ys vs first r.masked

  last_over_lem : (most top : ℕ) (s : Step) → first_over most (above r [] most top (s ∷ [])) (s ∷ [])
      ≡ cond (ltb most (top + s.raw)) (some s.line) none
  unfolding first_over standing
  last_over_lem most top s = ap (λ (k : ℕ). cond (ltb most (k + s.raw)) (some s.line) none) (add-zero top)

  -- the origin block begins with us and reads the variables xs, the masked block begins with vs and reads ys
  pub unknown_line_lem : values (polynomials m n) r.maps xs us r.origin ≡ t.origin → length us ≡ r.inputs
      → values (polynomials m n) r.maps ys vs r.masked ≡ t.masked → length vs ≡ r.inputs * r.shares
      → unknown_line r t ≡ or_else (over_in (most_terms r) m n r.maps xs us 0 r.origin)
      (or_else (over_in (most_terms r) m n r.maps ys vs first r.masked)
      (cond (ltb (most_terms r) (second + (last_step r t).raw)) (some (last_step r t).line) none))
  unfolding unknown_line steps
  unknown_line_lem e k f l =
      let most = most_terms r in
      let A = block_steps r t.origin r.inputs r.origin in
      let B = block_steps r t.masked (r.inputs * r.shares) r.masked in
      let C = last_step r t ∷ [] in
      ap (λ (ss : List Step). first_over most (standing r ss) ss) (append_assoc A B C)
      ∙ first-same most (standing r (A ++ (B ++ C))) (above r xs most 0 (A ++ (B ++ C))) (A ++ (B ++ C))
      (λ i. sym (zero-add (standing r (A ++ (B ++ C)) i)))
      ∙ over-block r xs most r.origin us t.origin e r.inputs k 0 (B ++ C)
      ∙ ap (or_else (over_in most m n r.maps xs us 0 r.origin))
      (over-block r ys most r.masked vs t.masked f (r.inputs * r.shares) l first C
      ∙ ap (or_else (over_in most m n r.maps ys vs first r.masked)) (last_over_lem most second (last_step r t)))
