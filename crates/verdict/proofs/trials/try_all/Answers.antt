use Rattle.std.proofs.Common.{arith}
use Rattle.text.specs.Routine.{routine_of}
use Rattle.verdict.proofs.Laws.Making.{trial-told, try-pass, try-stop, try-done}
use Rattle.verdict.proofs.trials.try_all.Goals as goal

pub returns-then-not-agrees_on : goal.returns-then-not-agrees_on
unfolding routine_of
returns-then-not-agrees_on c =
    let r = routine_of c.args.r.routine in
    let l = c.loop-made in
    let t = c.draw-next in
    try-stop r _ _ l.made l.n t.result.bytes (omega arith)
    (trial-told r l.n t.result.bytes t.ensures.bytes c.agrees_on.ensures c.if-not-agrees_on.true)
    t.ensures.bytes l.invariant

pub loop-made-preserved : goal.loop-made-preserved
unfolding routine_of
loop-made-preserved c =
    let r = routine_of c.args.r.routine in
    let l = c.loop-made in
    let t = c.draw-next in
    try-pass r _ _ l.made l.n _ (omega arith)
    (trial-told r l.n t.result.bytes t.ensures.bytes c.agrees_on.ensures c.if-not-agrees_on.false)
    t.ensures.next l.invariant

pub returns : goal.returns
unfolding routine_of
returns c = let l = c.loop-made in try-done (routine_of c.args.r.routine) _ _ l.made l.n (omega arith) l.invariant
