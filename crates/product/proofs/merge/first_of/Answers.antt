-- `product::merge::first_of` meets its contract: the sum is at its end, or the powers are compared. Assumes nothing.
use mathlib.Core.Path.{◌∙◌}
use Rattle.product.proofs.Lent.Merging.{facing-met}
use Rattle.product.proofs.merge.first_of.Goals as goal

pub returns : goal.returns
returns c =
    let a = c.args in
    let h = c.requires in
    c.compare_powers.ensures
    ∙ facing-met a.b.now a.w a.i a.end a.j h.0 h.1 c.if-i-end.false
