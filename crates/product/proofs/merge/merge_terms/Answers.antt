use Prim.Native.Nat.{◌+◌}
use native.Mathlib.Omega.{arith}
use Rattle.product.proofs.Lent.Merged.{merge_start, merge_more}
use Rattle.product.proofs.Lent.Merged.{merge_done}
use Rattle.product.proofs.merge.merge_terms.Goals as goal

pub loop-g-init : goal.loop-g-init
loop-g-init c =
    let a = c.args in
    let u = c.move_up in
    merge_start a.b.now a.n a.at a.r a.w u.new.b c.requires u.ensures

pub loop-g-smaller : goal.loop-g-smaller
loop-g-smaller c =
    let l = c.loop-g in
    let a = c.args in
    let y = c.loop-g-test in
    (c.merge_step-g.ensures 0 (a.at + a.r) y.true l.invariant.left).less

pub loop-g-preserved : goal.loop-g-preserved
loop-g-preserved c =
    let l = c.loop-g in
    let a = c.args in
    let s = c.merge_step-g in
    let u = c.move_up in
    merge_more u.new.b a.n a.at a.r a.w l.b l.g.terms l.g.sum l.g.piece l.invariant
    c.loop-g-test.true s.new.b s.result.terms s.result.sum s.result.piece
    s.ensures

pub returns : goal.returns
returns c =
    let l = c.loop-g in
    let a = c.args in
    let d = c.move_down in
    let u = c.move_up in
    merge_done u.new.b a.n a.at a.r a.w l.b l.g.terms l.g.sum l.g.piece l.invariant
    (omega arith) d.new.b a.b.now d.ensures c.requires u.ensures
