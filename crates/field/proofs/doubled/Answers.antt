-- `field::doubled` meets its contract, by cases on bit 7. Assumes nothing.
use native.Mathlib.Omega.{arith}
use Rattle.field.proofs.Laws.Steps.{double-low, double-high}
use Rattle.field.proofs.doubled.Goals as goal

pub returns-then-a-lt128 : goal.returns-then-a-lt128
returns-then-a-lt128 c = double-low c.args.m c.args.a (omega arith)

pub returns-else-a-lt128 : goal.returns-else-a-lt128
returns-else-a-lt128 c = double-high c.args.m c.args.a (omega arith) (omega arith)
