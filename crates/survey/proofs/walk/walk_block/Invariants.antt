-- The invariant: `Holds`, and right keeps its length. Assumes nothing.
use Rattle.std.proofs.Common.{◌+◌}
use Rattle.text.specs.Routine.{maps_of}
use Rattle.survey.specs.Walk.{Holds}
use Rattle.survey.proofs.walk.walk_block.Given as goal

abbrev pub invariant-loop-statement : goal.invariant-loop-statement
invariant-loop-statement l =
    Holds l.m (maps_of l.fn.r) l.fn.r.statements l.fn.from l.fn.to l.fn.v.scope l.initial.shelf l.initial.left l.w l.most
    (l.fn.from + l.statement-index) l.left l.shelf
