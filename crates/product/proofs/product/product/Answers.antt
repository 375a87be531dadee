-- `product::product::product` meets its contract: the rows of the shorter factor, in the front that is lent for them.
-- Assumes nothing.
use Prim.Native.Nat.{◌*◌}
use native.Mathlib.Omega.{arith}
use lib.ListN.{length, take}
use Rattle.field.proofs.Laws.Ring.{ring}
use Rattle.product.proofs.Lent.Factors.{product_lent, product_turned}
use Rattle.product.proofs.product.product.Goals as goal

pub returns-then-k-i : goal.returns-then-k-i
returns-then-k-i c =
    let a = c.args in
    let r = c.product_rows in
    let w = length a.t.now in
    product_lent a.m a.b.now a.p.now a.i a.q.now a.k w c.requires.some c.requires.room
    r.new.b r.result
    (product_turned a.m (ring a.m (omega arith)) (take (a.i * a.k * w) a.b.now) r.new.b
    a.p.now a.i a.q.now a.k w r.result r.ensures)

pub returns : goal.returns
returns c =
    let a = c.args in
    let r = c.product_rows-2 in
    product_lent a.m a.b.now a.p.now a.i a.q.now a.k (length a.t.now) c.requires.some
    c.requires.room r.new.b r.result r.ensures
