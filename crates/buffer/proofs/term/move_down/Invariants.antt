-- `buffer::term::move_down` meets its contract. The invariant: the bytes up to j are moved. Assumes nothing.
use Rattle.buffer.specs.Move.{MovedDown}
use Rattle.buffer.proofs.term.move_down.Given as goal

abbrev pub invariant-loop-j : goal.invariant-loop-j
invariant-loop-j l = MovedDown l.initial.b l.b l.from l.j l.by
