-- `product::product::term_product` meets its contract: behind the powers that p has stand those of q. Assumes nothing.
use mathlib.Core.Path.{◌≡◌, refl, ◌∙◌, subst}
use Prim.Native.Nat.{◌≤◌}
use native.Mathlib.Omega.{arith}
use native.Mathlib.Nat.{le_refl}
use lib.ListN.{length, get_or}
use Rattle.field.specs.Field.{times}
use Rattle.buffer.specs.Move.{Written}
use Rattle.buffer.proofs.Lent.Terms.{Begun, begun_all}
use Rattle.product.proofs.Lent.Parts.{part_length, returned-written}
use Rattle.product.proofs.product.term_product.Goals as goal

pub returns : goal.returns
returns c =
    let l = c.loop-j in
    let a = c.args in
    let v = c.copy_from_slice in
    let p = a.p.now in
    let q = a.q.now in
    let e : l.j ≡ length p = omega arith in
    let s : length l.t ≡ length q = omega (arith, l.invariant.size) in
    let f : length p ≤ length q = omega arith in
    let h = subst (Begun p q a.t.now l.t (times a.m (get_or p 0 0) (get_or q 0 0))) e l.invariant in
    begun_all h (subst (Written l.t _ (length p)) v.ensures.after
    (returned-written l.t (length p) (length l.t) (omega arith) (le_refl _) v.new.self
    (v.ensures.len ∙ part_length l.t (length p) (length l.t) (omega arith) (le_refl _))))
    c.requires.0 refl f c.requires.2
