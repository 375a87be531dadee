-- The search finds the first name that is the same. Assumes nothing.
use Rattle.std.proofs.Common.{rules}
use Rattle.std.proofs.lemmas.Iterator.{YieldsList-from_slice}
use Rattle.std.proofs.lemmas.Iterator.Search.{position_from_yields_List}
use Rattle.lookup.proofs.Laws.Placing.{place_found}
use Rattle.tokens.specs.Token.{same_name}
use Rattle.grammar.specs.Line.{name_in}
use mathlib.Core.Path.{◌∙◌}
use Rattle.lookup.proofs.table.place.Goals as goal

pub returns : goal.returns
returns c =
    let a = c.args in
    position_from_yields_List (λ m. same_name (name_in a.s.now a.n) (name_in a.s.now m)) _ _ c.position.result
    c.position.ensures.ran (YieldsList-from_slice _ c.iter.ensures.rest) (λ x b q k. search rules)
    ∙ place_found a.s.now (name_in a.s.now a.n) a.names.now
