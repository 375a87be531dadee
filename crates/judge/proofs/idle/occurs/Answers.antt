use Rattle.std.proofs.Common.{◌≡◌, ℕ, Bool, ◌+◌, ◌*◌, not, nat_eq, get_or, ◌∙◌}
use Rattle.std.proofs.Common.{refl, arith, rules, tests}
use Rattle.std.specs.List.{range_with_len, list_any}
use Rattle.std.proofs.lemmas.Iterator.{YieldsList-from_range}
use Rattle.std.proofs.lemmas.Iterator.Search.{any_from_yields_List}
use Rattle.judge.proofs.Laws.Occurring.{occurs-any}
use Rattle.judge.proofs.idle.occurs.Goals as goal

pub returns : goal.returns
returns c =
    let a = c.args in
    let test : ℕ → Bool = λ j. not (nat_eq (get_or a.b.now (j * a.w + a.v + 1) 0) 0) in
    let e : c.any.result ≡ list_any test (range_with_len 0 a.k) =
    any_from_yields_List test _ _ c.any.result c.any.ensures.ran
    (YieldsList-from_range 0 a.k a.k refl (omega arith)) (λ x b q k. search (rules, tests)) in
    e ∙ occurs-any a.v c.requires a.k 0
