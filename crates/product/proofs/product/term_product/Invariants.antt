-- `product::product::term_product` meets its contract. The invariant: `Begun`. Assumes nothing.
use lib.ListN.{get_or}
use Rattle.field.specs.Field.{times}
use Rattle.buffer.proofs.Lent.Terms.{Begun}
use Rattle.product.proofs.product.term_product.Given as goal

abbrev pub invariant-loop-j : goal.invariant-loop-j
invariant-loop-j l = Begun l.p l.q l.fn.t l.t (times l.m (get_or l.p 0 0) (get_or l.q 0 0)) l.j
