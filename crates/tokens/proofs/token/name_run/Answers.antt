use Rattle.std.proofs.Common.{rules, tests, ℕ, not, ◌∙◌}
use Rattle.std.proofs.lemmas.Iterator.{YieldsList-from_slice}
use Rattle.std.proofs.lemmas.Iterator.Search.{position_from_yields_List}
use Rattle.tokens.proofs.Laws.Library.{until-position}
use Rattle.tokens.specs.Ascii.{is_name_byte}
use Rattle.tokens.specs.Token.{name_run}
use Rattle.tokens.proofs.token.name_run.Goals as goal

pub returns : goal.returns
unfolding name_run
returns c =
    let f = c.args.f.now in
    c.unwrap_or.ensures
    ∙ until-position (λ (b : ℕ). not (is_name_byte b)) f
    (position_from_yields_List _ _ _ c.position.result c.position.ensures.ran
    (YieldsList-from_slice f cc) (λ x b q k. search (rules, tests)))
