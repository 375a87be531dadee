-- `product::merge::join_terms` meets its contract: the joined term goes, or is written. Assumes nothing.
use Prim.Native.Nat.{◌+◌, ◌*◌, ◌≤◌, ◌<◌}
use native.Mathlib.Omega.{arith}
use native.Mathlib.Nat.{mul-le-mul_right}
use lib.ListN.{length, get_or}
use Rattle.field.specs.Xor as X
use Rattle.field.specs.Xor.{◌⊕◌}
use Rattle.buffer.proofs.Lent.Strides.{next_row, pos_of_ne}
use Rattle.product.proofs.Lent.Merging.{joined-none, joined-some}
use Rattle.product.proofs.merge.join_terms.Goals as goal
use Rattle.product.proofs.merge.join_terms.Goals.{Start}

-- the term of the sum stands in the buffer
here : (c : Start) →
    let a = c.args in
    (a.i * a.w + a.w ≤ length a.b.now) × (a.i * a.w < length a.b.now)
    × ((a.i + 1) * a.w ≤ length a.b.now)
here c =
    let a = c.args in
    let h = c.requires in
    let s = next_row a.i a.w in
    let u : (a.i + 1) * a.w ≤ (a.j + 1) * a.w = mul-le-mul_right a.w (omega (arith, h.2)) in
    (omega (arith, h.3), omega (arith, h.0, h.3), omega (arith, h.3))

pub returns-then-c-eq0 : goal.returns-then-c-eq0
unfolding X.◌⊕◌
returns-then-c-eq0 c =
    let a = c.args in
    joined-none a.b.now a.i a.k a.w _ _ c.if-c-eq0.true

pub returns : goal.returns
unfolding X.◌⊕◌
returns c =
    let a = c.args in
    let h = c.requires in
    let t = c.take_term in
    joined-some a.b.now t.new.b a.i a.k a.w
    (get_or a.b.now (a.j * a.w) 0 ⊕ get_or a.b.now (a.i * a.w) 0) h.0 h.1 (here (goal.at.returns c).Start).2
    (pos_of_ne _ c.if-c-eq0.false) t.ensures
