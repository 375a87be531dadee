-- The ( stands at the mark, or not. Assumes nothing.
use Rattle.grammar.proofs.Laws.Measured.{operation_opened, operation_none}
use mathlib.Core.Path.{sym, ◌∙◌}
use Rattle.grammar.proofs.formula.operation_at.Goals as goal

pub returns-then-stands : goal.returns-then-stands
returns-then-stands c =
    c.operation_of.ensures
    ∙ operation_opened c.args.f.now c.args.at c.args.mark c.requires.0 c.requires.1
    (sym c.stands.ensures ∙ c.if-stands.true) c.part.ensures

pub returns : goal.returns
returns c =
    operation_none c.args.f.now c.args.at c.args.mark c.requires.0 c.requires.1
    (sym c.stands.ensures ∙ c.if-stands.false)
