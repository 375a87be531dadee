use Rattle.std.proofs.Common.{◌≡◌, ◌+◌, ◌∙◌, arith}
use Rattle.std.proofs.Common.{refl, rules, tests}
use Rattle.std.specs.List.{range_with_len, list_any}
use Rattle.std.proofs.lemmas.Iterator.{YieldsList-from_range}
use Rattle.std.proofs.lemmas.Iterator.Search.{any_from_yields_List}
use Rattle.poly.specs.Occurs.{occurs}
use Rattle.values.specs.Shelf.{terms_at}
use Rattle.judge.proofs.Laws.Occurring.{some-any}
use Rattle.judge.proofs.idle.some_occurs.Goals as goal

pub returns : goal.returns
returns c =
    let a = c.args in
    let p = terms_at a.w a.b.now 0 a.k in
    let e : c.any.result ≡ list_any (λ v. occurs v p) (range_with_len a.first a.n) =
    any_from_yields_List (λ v. occurs v p) _ _ c.any.result c.any.ensures.ran
    (YieldsList-from_range a.first (a.first + a.n) a.n refl (omega arith)) (λ x b q k. search (rules, tests)) in
    e ∙ some-any p a.first a.n
