-- `values::form::form_product` meets its contract. The lent parts of right are the two operands. Assumes nothing.
use lib.ListN.{replicate, take}
use Prim.Native.Nat.{ℕ, ◌-◌}
use Rattle.values.proofs.Laws.Forming.{product_formed, row-lent}
use Rattle.values.specs.Load.{most_term_bytes}
use Rattle.values.proofs.form.form_product.Goals as goal

pub returns : goal.returns
returns c =
    let a = c.args in
    let p = c.requires in
    let load_pair = c.load_pair in
    let size-of = c.size_of-i in
    let size-of2 = c.size_of-k in
    let product = c.product in
    product_formed size-of.ensures size-of2.ensures p.0
    load_pair.new.right (take {A = ℕ} (a.w - 0) (replicate most_term_bytes 0)) p.1
    load_pair.ensures.size
    (row-lent a.w p.1.most) a.m _ _
    product.new.b load_pair.ensures product.ensures
