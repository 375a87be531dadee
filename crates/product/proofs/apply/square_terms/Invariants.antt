-- `product::apply::square_terms` meets its contract. The invariant: `InSquares`. Assumes nothing.
use lib.ListN.{length}
use Rattle.product.proofs.Lent.Applying.{InSquares}
use Rattle.product.proofs.apply.square_terms.Given as goal

abbrev pub invariant-loop-j : goal.invariant-loop-j
invariant-loop-j l = InSquares l.m l.initial.src l.k (length l.initial.t) l.src l.t l.j
