-- The invariant: the values put, and those of the inputs that are left, are those of all. Assumes nothing.
use Rattle.std.proofs.Common.{◌≡◌, ◌-◌, ◌*◌, ◌++◌, map, take, drop}
use Rattle.verdict.specs.Instances.{bytes}
use Rattle.verdict.specs.Lists.{lots}
use Rattle.verdict.specs.Meaning.{joined}
use Rattle.verdict.proofs.block.begin_origin.Given as goal

abbrev pub invariant-loop-i : goal.invariant-loop-i
invariant-loop-i l =
    take l.i l.vs ++ map (joined (bytes l.m)) (lots l.k (l.inputs - l.i) (drop (l.i * l.k) l.xs))
    ≡ map (joined (bytes l.m)) (lots l.k l.inputs l.xs)
