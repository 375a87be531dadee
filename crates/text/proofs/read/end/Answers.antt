-- The stage says whether output has stood. Assumes nothing.
use Rattle.text.specs.Routine.{routine_of, maps_of, origin_of, masked_of, outputs_of}
use Rattle.lines.specs.Known.{arrays, kept, state_in}
use Rattle.lines.specs.Stage.{stage_of}
use Rattle.rules.specs.Read.{refused, accepted, routine}
use Prim.Native.Nat.{◌+◌}
use mathlib.Core.Bool.{Bool, true, cond}
use lib.Dec.{eqb}
use mathlib.Core.Path.{◌≡◌, ap, sym}
use Rattle.std.proofs.Common.{rules}
use Rattle.text.proofs.read.end.Goals as goal

pub returns : goal.returns
unfolding routine_of routine state_in maps_of origin_of masked_of outputs_of
returns c =
    λ s t.
    let a = c.args in
    let h = kept t a.h.known (arrays a.maps a.statements) in
    let K = a.h.sound in
    let ends : eqb (stage_of a.h.known.stage) 6 ≡ true = search rules in
    record {
      answer = ap (λ (b : Bool). cond b (accepted (routine (state_in s h) a.n)) (refused 6 (a.n + 1))) (sym ends);
      held = record {
        mapped = K.mapped;
        inputs = K.inputs;
        variables = K.variables;
        statements = K.statements;
        named = K.named;
      };
    }
