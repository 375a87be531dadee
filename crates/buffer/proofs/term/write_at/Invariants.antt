-- `buffer::term::write_at` meets its contract. The invariant: the first j bytes are written. Assumes nothing.
use lib.ListN.{take}
use Rattle.buffer.specs.Move.{Written}
use Rattle.buffer.proofs.term.write_at.Given as goal

abbrev pub invariant-loop-j : goal.invariant-loop-j
invariant-loop-j l = Written l.initial.b l.b l.at (take l.j l.t)
