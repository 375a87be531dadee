-- The invariant: the statements of the first i operations are stored. Assumes nothing.
use Rattle.text.proofs.Laws.Stored.{Storing}
use Rattle.text.proofs.store.store_statements.Given as goal

abbrev pub invariant-loop-i : goal.invariant-loop-i
invariant-loop-i l = Storing l.initial.statements l.ops l.fn.p l.at l.i-end l.statements l.i
