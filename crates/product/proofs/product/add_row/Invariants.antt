-- `product::product::add_row` meets its contract. The invariant: `InSum`. Assumes nothing.
use lib.ListN.{length}
use Rattle.product.proofs.Lent.Sums.{InSum}
use Rattle.product.proofs.product.add_row.Given as goal

abbrev pub invariant-loop-rest : goal.invariant-loop-rest
invariant-loop-rest l = InSum l.m l.initial.b l.r l.f l.src l.k (length l.initial.t) l.b l.t l.n l.rest

abbrev pub decreases-loop-rest : goal.decreases-loop-rest
decreases-loop-rest l = l.rest
