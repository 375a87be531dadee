use Rattle.std.proofs.Common.{◌≡◌, ◌*◌, ℕ, Bool, not, filter, length, ◌∙◌, arith, rules, tests}
use Rattle.std.specs.List.{range_with_len}
use Rattle.std.proofs.lemmas.Iterator.{YieldsList-from_range}
use Rattle.std.proofs.lemmas.Iterator.Consumers.{YieldsList-from_filter, count_from_yields_List}
use Rattle.poly.specs.Occurs.{some_occurs}
use Rattle.values.specs.Shelf.{terms_at}
use Rattle.judge.proofs.Laws.Occurring.{failing-filter}
use Rattle.judge.proofs.idle.count_idle.Goals as goal

pub returns : goal.returns
returns c =
    let a = c.args in
    let test : ℕ → Bool = λ i. some_occurs (i * a.shares) a.shares (terms_at a.w a.b.now 0 a.k) in
    let e : c.count.result ≡ length (filter (λ i. not (test i)) (range_with_len 0 a.inputs)) =
    count_from_yields_List c.filter.result _ c.count.ensures.ran
    (YieldsList-from_filter _ (λ i. not (test i))
    (YieldsList-from_range 0 a.inputs a.inputs c.filter.ensures.source (omega arith))
    c.filter.ensures.closure (λ x b q k. search (rules, tests))) in
    e ∙ failing-filter test a.inputs
