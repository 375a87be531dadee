-- The invariant: what comes of all trials comes of those that are left, from n. Assumes nothing.
use Rattle.std.proofs.Common.{◌≡◌, ◌-◌}
use Rattle.text.specs.Routine.{routine_of}
use Rattle.verdict.specs.Trials.{try, try_from}
use Rattle.verdict.proofs.trials.try_all.Given as goal

abbrev pub invariant-loop-made : goal.invariant-loop-made
invariant-loop-made l =
    let r = routine_of l.r.routine in
    try r l.made-end l.initial.n ≡ try_from r (l.made-end - l.made) l.made l.n
