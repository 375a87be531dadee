-- By the operand's case. Assumes nothing.
use Rattle.verdict.specs.Instances.{bytes}
use Rattle.verdict.specs.Meaning.{operand}
use Rattle.verdict.proofs.block.operand.Goals as goal

pub returns-in-Place : goal.returns-in-Place
unfolding operand
returns-in-Place c = rw c.in-Place.is c.value_at.ensures

pub returns-in-Byte : goal.returns-in-Byte
unfolding operand bytes
returns-in-Byte c = rw c.in-Byte.is
