-- The bytes of the line, its word, its record. Assumes nothing.
use mathlib.Core.Bool.{true}
use Rattle.std.specs.Prelude.{Some as some}
use mathlib.Core.Path.{◌≡◌, ap, sym, ◌∙◌}
use Rattle.tokens.specs.Ascii.{all, allowed}
use Rattle.grammar.specs.Line.{field_in}
use Rattle.tokens.specs.Word.{word_of}
use Rattle.reader.specs.Reader.{bytes_of}
use Rattle.reader.proofs.Laws.Handed.{line_foul, line_record, line-none, line-deep, line-unformed}
use Rattle.reader.proofs.handed.line_record.Goals as goal
use Rattle.reader.proofs.handed.line_record.Goals.{After-record}

-- the bytes of the line are allowed
clean : (c : After-record)
    → all allowed (bytes_of c.args.l.text.now c.args.l.line) ≡ true
clean c =
    sym (c.all_allowed.ensures
    ∙ ap (all allowed) c.bytes.ensures)
    ∙ c.if-not-all_allowed.false

-- the word of the line
told : (c : After-record)
    → c.word_of-w.result ≡ word_of (field_in c.args.l.text.now c.args.l.line 0)
told c =
    c.word_of-w.ensures
    ∙ ap word_of c.piece.ensures

pub returns-then-not-all_allowed : goal.returns-then-not-all_allowed
returns-then-not-all_allowed c d =
    ap some (line_foul _ _ d
    (sym (c.all_allowed.ensures ∙ ap (all allowed) c.bytes.ensures) ∙ c.if-not-all_allowed.true))

pub returns-in_default : goal.returns-in_default
returns-in_default c d =
    let p = (goal.at.returns-in_default c).After-record in
    ap some (line-none _ _ d (clean p) _ (told p) c.in_default.ensures)

pub returns-then-not-has_fields : goal.returns-then-not-has_fields
returns-then-not-has_fields c d =
    let p = (goal.at.returns-then-not-has_fields c).After-record in
    ap some (line-unformed _ _ d (clean p) _ (told p) _ c.in-Some.ensures
    (sym c.if-not-has_fields.true ∙ c.has_fields.ensures))

pub returns-then-nests : goal.returns-then-nests
returns-then-nests c d =
    let p = (goal.at.returns-then-nests c).After-record in
    ap some (line-deep _ _ d (clean p) _ (told p) _ c.in-Some.ensures
    (sym c.if-not-has_fields.false ∙ c.has_fields.ensures) (sym c.if-nests.true ∙ c.nests.ensures))

pub returns : goal.returns
returns c d =
    let p = (goal.at.returns c).After-record in
    line_record _ _ d (clean p) _ (told p) _ c.in-Some.ensures
    (sym c.if-not-has_fields.false ∙ c.has_fields.ensures) (sym c.if-nests.false ∙ c.nests.ensures)
