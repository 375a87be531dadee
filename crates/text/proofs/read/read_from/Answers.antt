-- A text too long is refused; the others are read line by line. Assumes nothing.
use borrow.Author.Tests.{lt-ltb, le-ltb}
use mathlib.Core.Bool.{Bool, cond}
use Rattle.tokens.specs.Ascii.{line_feed}
use Rattle.tokens.specs.Split.{pieces}
use Rattle.reader.proofs.Laws.Handed.{placed_in}
use Rattle.rules.specs.State.{start}
use Rattle.rules.specs.Read.{refused, take_lines}
use Rattle.text.specs.From.{lines_from, read_from}
use mathlib.Core.Path.{ap, sym, ◌∙◌}
use lib.ListN.{length, drop}
use Rattle.text.proofs.read.read_from.Goals as goal

pub returns-then-s-gt-MOST_BYTES : goal.returns-then-s-gt-MOST_BYTES
unfolding read_from
returns-then-s-gt-MOST_BYTES c =
    let s = c.args.s.now in
    record {
      answer = ap (λ (b : Bool). cond b (refused 2 0) (lines_from s c.args.at c.args.line))
          (sym (lt-ltb 16384 (length s) c.if-s-gt-MOST_BYTES.true));
      held = tt;
    }

pub read_lines-requires : goal.read_lines-requires
read_lines-requires c =
    let p = placed_in c.args.s.now c.args.at c.args.line c.placed-c.result c.placed-c.ensures in
    (p.0, p.1, c.if-s-gt-MOST_BYTES.false)

pub returns : goal.returns
unfolding read_from
returns c =
    let s = c.args.s.now in
    let P = c.placed-c.ensures in
    let R = c.read_lines.ensures in
    record {
      answer = R.answer
          ∙ (λ i. take_lines start (P i).line (pieces line_feed (drop (P i).at s)))
          ∙ ap (λ (b : Bool). cond b (refused 2 0) (lines_from s c.args.at c.args.line))
          (sym (le-ltb 16384 (length s) c.if-s-gt-MOST_BYTES.false));
      held = R.held;
    }
