-- `product::product::product_row` meets its contract. Assumes nothing.
use mathlib.Core.Path.{◌≡◌, ap, ◌∙◌}
use mathlib.Core.List.{◌∷◌, []}
use Prim.Native.Nat.{◌+◌, ◌*◌, ◌-◌, ◌<◌}
use native.Mathlib.Omega.{arith}
use lib.ListN.{length, take, drop, length-append}
use Rattle.field.proofs.Laws.Ring.{ring}
use Rattle.std.specs.Slice.Iter.{chunks_exact_rest}
use Rattle.product.specs.Product.{term_times}
use Rattle.product.proofs.Lent.Products.{row-wide, row_done, row_asks, row_more}
use Rattle.product.proofs.Lent.Walks.{first_next, first_none}
use Rattle.product.proofs.product.product_row.Goals as goal
use Rattle.product.proofs.product.product_row.Goals.{In-Some}

-- the term that comes, and those that are left
here : (c : In-Some) →
    let j = length c.loop-q.yielded in
    let w = length c.args.t.now in
    let b = c.args.src.now in
    (j < c.args.k) × (chunks_exact_rest c.next.new.self ≡ drop ((j + 1) * w) (take (c.args.k * w) b))
    × (c.in-Some.q.now ≡ take (j * w + w - j * w) (drop (j * w) b))
here c =
    let v = c.loop-q.invariant in
    let s = c.in-Some.ensures.steps in
    first_next c.args.src.now c.args.k (length c.args.t.now) (row-wide v.row.asked) v.row.asked.source
    _ _ _ _ v.row.most v.left
    s.1.0 (s.1.1 ∙ v.size)

pub insert_term-n-requires : goal.insert_term-n-requires
insert_term-n-requires c =
    let h = here (goal.at.insert_term-n-requires c).In-Some in
    row_asks c.loop-q.invariant.row h.0 (c.term_product.ensures ∙ ap (term_times c.args.m c.args.f.now) h.2)
    c.term_product.auto.t

pub loop-q-preserved : goal.loop-q-preserved
loop-q-preserved c =
    let v = c.loop-q.invariant in
    let s = c.in-Some.ensures.steps in
    let h = here (goal.at.loop-q-preserved c).In-Some in
    let n = length-append c.loop-q.yielded (c.in-Some.q ∷ []) in
    rw n (record {
      row = row_more v.row h.0 (c.term_product.ensures ∙ ap (term_times c.args.m c.args.f.now) h.2)
          c.term_product.auto.t (ring c.args.m (omega arith)) (c.insert_term-n.ensures c.args.m);
      left = h.1;
      size = s.0 ∙ v.size;
    })

pub returns : goal.returns
returns c =
    let v = c.loop-q.invariant in
    row_done v.row (first_none c.args.src.now c.args.k (length c.args.t.now) (row-wide v.row.asked) v.row.asked.source
    _ _ v.row.most v.left (omega (arith, c.in-None.ensures.steps.1.0, v.size)))
