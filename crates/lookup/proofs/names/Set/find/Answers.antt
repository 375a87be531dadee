-- What a search among the names of the set finds. Assumes nothing.
use Rattle.lookup.specs.Found.{name_found}
use Rattle.grammar.specs.Line.{name_in}
use Rattle.tokens.specs.Token.{Name}
use mathlib.Core.List.{List}
use mathlib.Core.Path.{ap, ◌∙◌}
use Rattle.lookup.proofs.names.Set.find.Goals as goal

pub returns : goal.returns
returns c =
    let l = c.args.self in
    c.place.ensures
    ∙ ap (λ (ms : List Name). name_found ms (name_in l.text.now c.args.n)) (c.entries.ensures l.text.now)
