use mathlib.Core.Path.{◌≡◌}
use native.Mathlib.Omega.{arith}
use Prim.Native.Nat.{◌<◌}
use lib.ListN.{length}
use Rattle.product.proofs.Lent.Mapping.{apply-start, apply-done, apply-more}
use borrow.Author.Rules.{rules}
use Rattle.product.proofs.apply.apply.Goals as goal

pub loop-l-init : goal.loop-l-init
loop-l-init c =
    let a = c.args in
    let r = c.requires in
    let o = c.write_constant-n in
    let e : length a.list ≡ 8 = search rules in
    let h : a.c < 256 = omega arith in
    apply-start a.m a.c a.list a.src.now a.k a.t.now a.b.now o.new.b o.result
    e h r o.ensures

pub loop-l-preserved : goal.loop-l-preserved
loop-l-preserved c =
    let l = c.loop-l in
    let a = c.args in
    let p = c.scaled_row-n in
    let s = c.square_terms in
    apply-more a.m a.c a.list a.src.now a.k a.t.now _ l.b l.src l.t l.n l.l-index l.invariant
    (omega arith)
    p.new.b s.new.src p.new.t
    s.new.t p.result p.auto.t s.auto.t p.ensures
    s.ensures

pub returns : goal.returns
returns c =
    let l = c.loop-l in
    let a = c.args in
    let o = c.write_constant-n in
    apply-done a.m a.c a.list a.src.now a.k a.t.now _ l.b l.src l.t l.n l.l-index l.invariant
    a.b.now _ (omega arith)
    o.ensures
