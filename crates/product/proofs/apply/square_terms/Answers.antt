-- `product::apply::square_terms` meets its contract. Assumes nothing.
use Rattle.product.proofs.Lent.Applying.{squares_more}
use Rattle.product.proofs.apply.square_terms.Goals as goal

pub loop-j-preserved : goal.loop-j-preserved
loop-j-preserved c =
    let p = c.term_product in
    rw c.copy_from_slice.ensures.after (squares_more c.loop-j.invariant c.loop-j-test.true p.ensures p.auto.t)
