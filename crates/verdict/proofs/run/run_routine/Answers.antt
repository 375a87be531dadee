-- Refused by the number of bytes, or both results. Assumes nothing.
use Rattle.std.proofs.Common.{◌∙◌}
use Rattle.text.specs.Routine.{routine_of}
use Rattle.verdict.proofs.Laws.Ran.{run_refused_lem, run_taken}
use Rattle.verdict.proofs.run.run_routine.Goals as goal

pub returns-then-xs-r : goal.returns-then-xs-r
unfolding routine_of
returns-then-xs-r c =
    let g = c.args in
    c.refused.ensures ∙ run_refused_lem (routine_of g.r.routine) g.xs.now c.if-xs-r.true

pub returns : goal.returns
unfolding routine_of
returns c =
    let g = c.args in
    let same = c.if-xs-r.false in
    run_taken (routine_of g.r.routine) g.xs.now _ _ same c.original-a.ensures c.masked-b.ensures
