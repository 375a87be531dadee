-- `buffer::insert::find_place` meets its contract. The invariant: `Between`, halved in each turn. Assumes nothing.
use Prim.Native.Nat.{◌-◌}
use Rattle.buffer.proofs.Lent.Places.{Between}
use Rattle.buffer.proofs.insert.find_place.Given as goal

abbrev pub invariant-loop-low : goal.invariant-loop-low
invariant-loop-low l = Between l.b l.k l.t l.low l.high

abbrev pub decreases-loop-low : goal.decreases-loop-low
decreases-loop-low l = l.high - l.low
