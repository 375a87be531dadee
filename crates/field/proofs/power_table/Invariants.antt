-- `field::power_table` meets its contract. The loop's invariant: x is the power of its place, the places passed hold
-- theirs.
-- Assumes nothing.
use Prim.Native.Nat.{ℕ, ◌<◌}
use mathlib.Core.Path.{◌≡◌}
use lib.ListN.{get_or}
use Rattle.field.specs.Field.{times, power}
use Rattle.field.proofs.power_table.Given as goal

abbrev pub invariant-loop-p : goal.invariant-loop-p
invariant-loop-p l =
    (l.x ≡ power (times l.m) l.a l.p-index)
    × ((k : ℕ) → k < l.p-index → get_or l.p-items k 0 ≡ power (times l.m) l.a k)
