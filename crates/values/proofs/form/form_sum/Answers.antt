-- `values::form::form_sum` meets its contract. The operands' terms inserted among none are the sum. Assumes nothing.
use Rattle.values.proofs.Laws.Forming.{sum-formed}
use Rattle.values.proofs.form.form_sum.Goals as goal

pub returns : goal.returns
returns c =
    let a = c.args in
    let p = c.requires in
    let load_pair = c.load_pair in
    let size-of = c.size_of in
    let size-of2 = c.size_of-2 in
    let add-terms = c.add_terms in
    sum-formed size-of.ensures size-of2.ensures p.0
    load_pair.new.right p.1 a.m _ _ add-terms.new.b load_pair.ensures
    (add-terms.ensures a.m)
