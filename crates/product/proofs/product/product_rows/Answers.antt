-- `product::product::product_rows` meets its contract. Assumes nothing.
use mathlib.Core.Path.{◌≡◌, ap, ◌∙◌}
use mathlib.Core.List.{◌∷◌, [], ◌++◌}
use Prim.Native.Nat.{◌+◌, ◌*◌, ◌-◌, ◌<◌}
use native.Mathlib.Omega.{arith}
use lib.ListN.{length, take, drop, length-append}
use Rattle.std.specs.Slice.Exact.{rchunks_exact_rest, rchunks_exact_size}
use Rattle.product.proofs.Lent.Factors.{product_start, product_done, product_asks, product_more}
use Rattle.product.proofs.Lent.Walks.{last_all, last_next, last_none}
use Rattle.product.proofs.product.product_rows.Goals as goal
use Rattle.product.proofs.product.product_rows.Goals.{In-Some}

-- the term that comes, and those that are left
here : (c : In-Some) →
    let j = c.args.i - length c.loop-f.yielded in
    let w = length c.args.t.now in
    let b = c.args.p.now in
    (0 < j) × (rchunks_exact_rest c.next.new.self ≡ take ((j - 1) * w) b)
    × (c.in-Some.f.now ≡ take ((j - 1) * w + w - (j - 1) * w) (drop ((j - 1) * w) b))
here c =
    let v = c.loop-f.invariant in
    let s = c.in-Some.ensures.steps in
    last_next c.args.p.now c.args.i (length c.args.t.now) v.sums.asked.some v.sums.asked.left
    _ _ _ _ v.sums.most v.left s.2.0 (s.2.1 ∙ v.size)

pub loop-f-init : goal.loop-f-init
loop-f-init c =
    let a = c.args in
    let v = c.rchunks_exact-f-items.ensures in
    let e : a.i - 0 ≡ a.i = omega arith in
    let q = c.into_iter-f-iterator.ensures.into_iter_gives in
    rw e (record {
      sums = product_start c.requires;
      left = ap rchunks_exact_rest q
          ∙ last_all a.p.now a.i (length a.t.now) c.requires.some c.requires.left _ _ v.parts v.remainder_len;
      size = ap rchunks_exact_size q ∙ v.size;
    })

pub add_row-n-requires : goal.add_row-n-requires
add_row-n-requires c =
    let h = here (goal.at.add_row-n-requires c).In-Some in
    product_asks c.loop-f.invariant.sums h.0 h.2

pub loop-f-preserved : goal.loop-f-preserved
loop-f-preserved c =
    let v = c.loop-f.invariant in
    let s = c.in-Some.ensures.steps in
    let h = here (goal.at.loop-f-preserved c).In-Some in
    let n = length-append c.loop-f.yielded (c.in-Some.f ∷ []) in
    let e : c.args.i - length (c.loop-f.yielded ++ c.in-Some.f ∷ []) ≡ c.args.i - length c.loop-f.yielded - 1 =
    omega arith in
    rw e (record {
      sums = product_more v.sums h.0 h.2 c.add_row-n.auto.t c.add_row-n.ensures;
      left = h.1;
      size = s.0 ∙ v.size;
    })

pub returns : goal.returns
returns c =
    let v = c.loop-f.invariant in
    product_done v.sums (last_none c.args.p.now c.args.i (length c.args.t.now) v.sums.asked.some v.sums.asked.left
    _ _ v.sums.most v.left (omega (arith, c.in-None.ensures.steps.2.0, v.size)))
