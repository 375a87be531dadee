-- THEOREM: in the routine of every accepted text each place that is read is given above.
-- Assumes nothing.
use mathlib.Core.Path.{◌≡◌, refl}
use mathlib.Core.Logic.{inr}
use Prim.Native.Nat.{ℕ}
use native.Mathlib.Omega.{arith}
use mathlib.Core.List.{List}
use lib.Dec.{eqb}
use lib.ListN.{length}
use borrow.Author.Tests.{eqb-true, not-false}
use Rattle.tokens.specs.declared.word.Word.{Word}
use Rattle.grammar.specs.Record.{set, xor, mul, app, rand, Record}
use Rattle.rules.specs.Order.{at_start, in_maps, in_inputs, in_origin, at_result, in_masked, stage_after}
use Rattle.rules.specs.State.{State}
use Rattle.rules.specs.Grown.{at_stage}
use Rattle.rules.specs.Scope.{drawn}
use Rattle.rules.specs.Faults.{reads_unknown}
use Rattle.rules.specs.Faults.{miscounts}
use Rattle.rules.specs.Added.{added}
use Rattle.rules.specs.Read.{routine, read_text}
use Rattle.rules.specs.Ranged.{Ranged}
use Rattle.grammar.proofs.Laws.Fits.{Fits, fit_shares, fit_map, fit_input, fit_origin, fit_set, fit_xor, fit_mul}
use Rattle.grammar.proofs.Laws.Fits.{fit_app, fit_let, fit_rand, fit_result, fit_masked, fit_output}
use Rattle.rules.proofs.Laws.Reads.{one_of, at_most}
use Rattle.rules.proofs.Laws.Keeping.{Passed, Accepts, read_keeps}
use Rattle.rules.proofs.Laws.Placed.{Placed, start-placed, shares-placed, map-placed, input-placed}
use Rattle.rules.proofs.Laws.Placed.{stage-placed, assign-placed, let_placed, result-placed, output-placed}

-- a record that no refusal stops
added-placed : (s : State) → Placed s → (n : ℕ) {w : Word} {r : Record} → Fits w r → Passed s w r
    → Placed (at_stage (stage_after w s.stage) (added n r s))
unfolding added reads_unknown miscounts drawn
added-placed s K n (fit_shares {k = k} low high) p = shares-placed s K n k (eqb-true s.stage at_start p.stands)
added-placed s K n (fit_map {n = x} {c = c} {l = l} h e hl) p =
    map-placed s K n x c l (eqb-true s.stage in_maps p.stands)
added-placed s K n (fit_input {n = x}) p =
    input-placed s K n x
    (at_most s.stage in_maps in_inputs in_inputs (omega arith) (omega arith)
    (one_of s.stage in_maps in_inputs p.stands))
added-placed s K n fit_origin p = stage-placed s K n in_origin (omega arith) (omega arith) (λ z. absurd (omega arith))
added-placed s K n (fit_set {n = x} {a = a} h) p =
    assign-placed s K n x (set a) (one_of s.stage in_origin in_masked p.stands) (λ e. refl) p.known
added-placed s K n (fit_xor {n = x} {a = a} {b = b} h k) p =
    assign-placed s K n x (xor a b) (one_of s.stage in_origin in_masked p.stands) (λ e. refl) p.known
added-placed s K n (fit_mul {n = x} {a = a} {b = b} h k) p =
    assign-placed s K n x (mul a b) (one_of s.stage in_origin in_masked p.stands) (λ e. refl) p.known
added-placed s K n (fit_app {n = x} {f = f} {a = a} h) p =
    assign-placed s K n x (app f a) (one_of s.stage in_origin in_masked p.stands) (λ e. refl) p.known
added-placed s K n (fit_let {n = x} {f = f} h) p =
    let_placed s K n x f (one_of s.stage in_origin in_masked p.stands) p.known
added-placed s K n (fit_rand {n = x}) p =
    let e : s.stage ≡ in_masked = eqb-true s.stage in_masked p.stands in
    assign-placed s K n x rand (inr e) (λ z. absurd (omega arith)) p.known
added-placed s K n (fit_result {n = x}) p = result-placed s K n x (eqb-true s.stage in_origin p.stands) p.known
added-placed s K n fit_masked p =
    let e : s.stage ≡ at_result = eqb-true s.stage at_result p.stands in
    stage-placed s K n in_masked (omega arith) (omega arith) (λ z. omega arith)
added-placed s K n (fit_output {ns = xs}) p =
    output-placed s K n xs (eqb-true s.stage in_masked p.stands) p.known
    (eqb-true (length xs) s.shares (not-false (eqb (length xs) s.shares) p.counted))

-- THEOREM
pub read-ranged : (text : List ℕ) → Accepts Ranged (read_text text)
unfolding routine
read-ranged =
    read_keeps Placed Ranged start-placed (λ s K n w r f p. added-placed s K n f p) (λ s K n e. record {
      origin = K.origin.above;
      masked = K.masked.above;
      result = K.resulted (omega arith);
      outputs = K.listed (omega arith);
      count = K.counted (omega arith);
    })
