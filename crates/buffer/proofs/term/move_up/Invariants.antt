-- `buffer::term::move_up` meets its contract. The invariant: the bytes from j on are moved. Assumes nothing.
use Prim.Native.Nat.{◌≤◌}
use Rattle.buffer.specs.Move.{MovedUp}
use Rattle.buffer.proofs.term.move_up.Given as goal

abbrev pub invariant-loop-j : goal.invariant-loop-j
invariant-loop-j l = (l.from ≤ l.j) × MovedUp l.initial.b l.b l.j l.to l.by
