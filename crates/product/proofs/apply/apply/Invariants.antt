-- `product::apply::apply` meets its contract. The invariant: `InApply`. Assumes nothing.
use Rattle.product.proofs.Lent.Mapping.{InApply}
use Rattle.product.proofs.apply.apply.Given as goal

abbrev pub invariant-loop-l : goal.invariant-loop-l
invariant-loop-l l = InApply l.m l.c l.fn.list l.initial.b l.initial.src l.k l.initial.t l.b l.src l.t l.n l.l-index
