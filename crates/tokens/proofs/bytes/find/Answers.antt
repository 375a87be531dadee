use Rattle.std.proofs.Common.{rules, tests, take, drop, length, ℕ, ap, ◌==◌, ◌+◌, ◌-◌, ◌∙◌}
use Rattle.std.proofs.lemmas.Iterator.{YieldsList-from_slice}
use Rattle.std.proofs.lemmas.Iterator.Search.{position_from_yields_List}
use Rattle.tokens.proofs.Laws.Library.{until-after}
use Rattle.tokens.specs.Split.{before}
use Rattle.tokens.proofs.bytes.find.Goals as goal

pub returns : goal.returns
unfolding before
returns c =
    let a = c.args in
    let rest = take (length a.s.now - a.at) (drop a.at a.s.now) in
    ap (λ (n : ℕ). a.at + n) (c.unwrap_or.ensures
    ∙ until-after (λ (b : ℕ). b == a.sep) a.at a.s.now
    (position_from_yields_List _ _ _ c.position.result c.position.ensures.ran
    (YieldsList-from_slice rest c.iter.ensures.rest) (λ x b q k. search (rules, tests))))
