-- What the form of the bytes gives, at their place. Assumes nothing.
use Rattle.std.proofs.Common.{ℕ, List, ap, sym, ◌∙◌}
use Rattle.std.specs.Prelude.{Some}
use Rattle.tokens.specs.Answer.{term_read}
use Rattle.tokens.specs.Token.{read_term, name}
use Rattle.tokens.specs.declared.token.TermForm.{TermForm}
use Rattle.grammar.specs.declared.line.NameRef.{NameRef}
use Rattle.grammar.specs.Line.{name_in}
use Rattle.grammar.proofs.Laws.Fields.{term_here_lem}
use Rattle.grammar.proofs.line.term_at.Goals as goal

pub returns-in-Name : goal.returns-in-Name
returns-in-Name c =
    let a = c.args in
    ap (λ (n : NameRef). Some (name (name_in a.s.now n))) c.placed.ensures
    ∙ term_here_lem a.s.now a.at a.len (Some (TermForm.Name c.in-Name.n))
    (sym (ap (λ (x : TermForm). Some x) c.in-Name.is) ∙ c.in_ok-n.ensures
    ∙ ap (λ (t : List ℕ). term_read (read_term t)) c.part.ensures)
