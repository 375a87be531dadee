-- `product::merge::take_term` meets its contract. Assumes nothing.
use Rattle.product.proofs.Lent.Merging.{taken}
use Rattle.product.proofs.merge.take_term.Goals as goal

pub returns : goal.returns
returns c =
    let a = c.args in
    let h = c.requires in
    let d = c.move_down in
    taken a.b.now d.new.b a.i a.k a.w h.0 h.1 h.2 d.ensures
