-- The invariant: from the values put, the statements that are left give what all of them give. Assumes nothing.
use Rattle.verdict.specs.Block.{part}
use Rattle.std.proofs.Common.{◌≡◌, ◌+◌, take, drop}
use Rattle.text.specs.Routine.{maps_of}
use Rattle.verdict.specs.Instances.{bytes}
use Rattle.verdict.specs.Meaning.{values}
use Rattle.verdict.proofs.block.fill.Given as goal

abbrev pub invariant-loop-s : goal.invariant-loop-s
invariant-loop-s l =
    (l.at ≡ l.n + l.s-index)
    × (values (bytes l.m) (maps_of l.fn.r) l.xs (take l.at l.vs) (drop l.s-index (part l.from l.to l.fn.r.statements))
    ≡ values (bytes l.m) (maps_of l.fn.r) l.xs (take l.n l.initial.vs) (part l.from l.to l.fn.r.statements))
