-- The invariant: the outputs before this one are laid. Assumes nothing.
use Rattle.std.proofs.Common.{take}
use Rattle.survey.specs.Difference.{OutputsLaid}
use Rattle.survey.proofs.difference.load_outputs.Given as goal

abbrev pub invariant-loop-p : goal.invariant-loop-p
invariant-loop-p l = OutputsLaid l.left (take l.p-index l.outputs) l.v.scope l.v.shelf l.initial.right l.right l.from l.w l.k
