-- What the form of the bytes gives, at their place. Assumes nothing.
use Rattle.std.proofs.Common.{ℕ, List, ap, ◌∙◌}
use Rattle.std.specs.Prelude.{Some}
use Rattle.tokens.specs.Answer.{name_read}
use Rattle.tokens.specs.Token.{read_name}
use Rattle.grammar.specs.declared.line.NameRef.{NameRef}
use Rattle.grammar.specs.Line.{name_in}
use Rattle.grammar.proofs.Laws.Fields.{name_here_lem}
use Rattle.grammar.proofs.line.name_at.Goals as goal

pub returns : goal.returns
returns c =
    let a = c.args in
    ap (λ (n : NameRef). Some (name_in a.s.now n)) c.placed.ensures
    ∙ name_here_lem a.s.now a.at a.len (Some c.in_ok-n.n)
    (c.in_ok-n.ensures ∙ ap (λ (t : List ℕ). name_read (read_name t)) c.part.ensures)
