-- `product::apply::write_constant` meets its contract: nothing, or the coefficient and powers of zero. Assumes nothing.
use Rattle.buffer.proofs.Lent.Strides.{pos_of_ne}
use Rattle.product.proofs.Lent.Applying.{constant-done}
use Rattle.product.proofs.apply.write_constant.Goals as goal

pub returns : goal.returns
returns c =
    let a = c.args in
    let r = c.requires in
    constant-done a.b.now a.c a.w _ r.0 (pos_of_ne a.c c.if-c-eq0.false) r.1 (c.fill.ensures.after (λ y e. e))
