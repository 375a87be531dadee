-- The invariant: the places before this one are counted. Assumes nothing.
use Rattle.std.proofs.Common.{take}
use Rattle.survey.specs.Difference.{OutputsSized}
use Rattle.survey.proofs.difference.outputs_size.Given as goal

abbrev pub invariant-loop-p : goal.invariant-loop-p
invariant-loop-p l = OutputsSized (take l.p-index l.outputs) l.v.scope l.v.shelf l.k
