-- `buffer::add::add_terms` meets its contract. The invariant: `InAdd`. Assumes nothing.
use Rattle.buffer.proofs.Lent.Adding.{InAdd}
use Rattle.buffer.proofs.add.add_terms.Given as goal

abbrev pub invariant-loop-j : goal.invariant-loop-j
invariant-loop-j l = InAdd l.initial.b l.r l.src l.k l.w l.b l.n l.j
