-- The span of the piece in its line, moved to where the line stands. Assumes nothing.
use Rattle.grammar.proofs.Laws.Fields.{span_in}
use Rattle.grammar.specs.Line.{pieces_in}
use Rattle.grammar.proofs.line.TextLine.field.Goals as goal

pub returns : goal.returns
unfolding pieces_in
returns c =
    let l = c.args.self in
    span_in l.text.now l.line.from l.line.len _ _ l.inside (rw c.bytes.ensures at c.piece-p.ensures)
