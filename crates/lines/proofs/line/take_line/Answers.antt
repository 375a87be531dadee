-- The bytes of the line, its word, its record. Assumes nothing.
use mathlib.Core.Bool.{true, false}
use Rattle.tokens.specs.Ascii.{all, allowed}
use Rattle.grammar.specs.Line.{pieces_in}
use Rattle.grammar.specs.TextLine.{bytes_of}
use Rattle.tokens.specs.Word.{word_of}
use Rattle.lines.specs.Known.{kept, state_in}
use Rattle.lines.specs.Taken.{outcome_in}
use Rattle.lines.proofs.Laws.Leading.{line-bad, line_record}
use mathlib.Core.Path.{◌≡◌, refl, ap, sym, ◌∙◌}
use Rattle.lines.proofs.line.take_line.Goals as goal

pub returns-then-all_allowed : goal.returns-then-all_allowed
unfolding pieces_in
returns-then-all_allowed c =
    let s = c.args.l.text.now in
    let l = bytes_of c.args.l in
    let clean : all allowed l ≡ true = sym (c.all_allowed.ensures
    ∙ ap (all allowed) c.bytes.ensures) ∙ c.if-all_allowed.true in
    let told = c.word_of-w.ensures ∙ ap word_of c.piece.ensures in (
      record {
        outcome = λ a z. c.take_record.ensures.0.outcome a z
            ∙ line_record (state_in s (kept c.args.t.now c.args.h.known a)) c.args.n l clean
            c.word_of-w.result told;
        step = c.take_record.ensures.0.step;
      },
      c.take_record.ensures.1,
    )

pub returns : goal.returns
unfolding outcome_in
returns c =
    let s = c.args.l.text.now in
    let l = bytes_of c.args.l in
    let foul : all allowed l ≡ false = sym (c.all_allowed.ensures
    ∙ ap (all allowed) c.bytes.ensures) ∙ c.if-all_allowed.false in (
      record {
        outcome = λ a z. line-bad (state_in s (kept c.args.t.now c.args.h.known a)) c.args.n l foul;
        step = tt;
      },
      refl,
    )
