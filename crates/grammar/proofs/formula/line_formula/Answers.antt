-- The number of fields is wrong, or the formula is read in its field. Assumes nothing.
use Rattle.grammar.proofs.Laws.Each.{counted-right, counted_wrong}
use Rattle.grammar.specs.Formula.{Formula, read_formula}
use Rattle.grammar.specs.TextLine.{pieces_of}
use Rattle.grammar.specs.Measured.{MeasureIs}
use Rattle.grammar.specs.Record.{field}
use Rattle.grammar.specs.Recorded.{formula_of}
use Rattle.tokens.specs.declared.word.Word.TheVariants as Word
use Rattle.std.specs.Prelude.{Option}
use mathlib.Core.Path.{sym, ap, subst, ◌∙◌}
use Rattle.grammar.proofs.formula.line_formula.Goals as goal

pub returns-then-not-fits_word : goal.returns-then-not-fits_word
unfolding formula_of
returns-then-not-fits_word c =
    let ps = pieces_of c.args.l in
    sym (counted_wrong Word.Let ps (read_formula (field 2 ps)) (sym c.fits_word.ensures ∙ c.if-not-fits_word.true))

pub returns : goal.returns
unfolding formula_of
returns c =
    let ps = pieces_of c.args.l in
    subst (λ (o : Option Formula). MeasureIs c.read_formula.result o)
    (ap read_formula c.piece.ensures
    ∙ sym (counted-right Word.Let ps (read_formula (field 2 ps)) (sym c.fits_word.ensures ∙ c.if-not-fits_word.false)))
    c.read_formula.ensures
