-- `field::power` meets its contract. The loop's invariant: the result so far, times x to the power n, is the answer.
-- Assumes nothing.
use Prim.Native.Nat.{◌<◌}
use mathlib.Core.Path.{◌≡◌}
use Rattle.field.specs.Field.{times, power}
use Rattle.field.proofs.power.Given as goal

abbrev pub invariant-loop-n : goal.invariant-loop-n
invariant-loop-n l = (l.result < 256) × (times l.m l.result (power (times l.m) l.x l.n) ≡ power (times l.m) l.a l.e)

abbrev pub decreases-loop-n : goal.decreases-loop-n
decreases-loop-n l = l.n
