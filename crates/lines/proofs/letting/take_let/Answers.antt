-- The formula is read, and does not nest too deep. Assumes nothing.
use mathlib.Core.Path.{◌≡◌, refl, ap, sym, subst}
use Rattle.std.proofs.Common.{rules}
use Rattle.std.specs.Prelude.{Option, Some as some, None as none, Err}
use Rattle.tokens.specs.declared.refusal.Refusal.TheVariants.{Form}
use Rattle.grammar.specs.Formula.{Formula}
use Rattle.grammar.specs.Line.{name_in}
use Rattle.grammar.specs.TextLine.{pieces_of}
use Rattle.grammar.specs.Recorded.{formula_of, let_in, record_in}
use Rattle.lines.specs.declared.step.Letting.{Letting}
use Rattle.lines.specs.Taken.{Took}
use Rattle.lines.proofs.Laws.Taking.{took_bad, took_is}
use Rattle.lines.proofs.Laws.LetTaking.{Measured, measured, line-field, line-shallow, line-deep}
use Rattle.lines.proofs.letting.take_let.Goals as goal
use Rattle.lines.proofs.letting.take_let.Goals.{In_ok-read}

-- the line has a formula
read_is : (c : In_ok-read) → Measured c.in_ok-read.read (formula_of (pieces_of c.args.here.line))
read_is c =
    let was : c.line_formula.result ≡ some c.in_ok-read.read = search rules in
    measured c.in_ok-read.read _ (rw was at c.line_formula.ensures)

pub returns-in_err-read : goal.returns-in_err-read
unfolding record_in
returns-in_err-read c =
    let s = c.args.here.line.text.now in
    let q : c.from_residual.result ≡ Err Form = search rules in
    let was : c.line_formula.result ≡ none = search rules in
    let bad : formula_of (pieces_of c.args.here.line) ≡ none = rw was at c.line_formula.ensures in (
      took_is c.args.here q
          (took_bad c.args.here (ap (let_in (name_in s c.args.x)) (sym bad))),
      refl,
    )

pub returns-then-read-gt-MOST_DEPTH : goal.returns-then-read-gt-MOST_DEPTH
unfolding record_in
returns-then-read-gt-MOST_DEPTH c =
    let s = c.args.here.line.text.now in (
      line-deep c.args.here c.args.x _ (formula_of (pieces_of c.args.here.line))
          (read_is (goal.at.returns-then-read-gt-MOST_DEPTH c).In_ok-read) c.if-read-gt-MOST_DEPTH.true,
      refl,
    )

pub take_shallow-requires : goal.take_shallow-requires
take_shallow-requires c =
    let s = c.args.here.line.text.now in
    let M = read_is (goal.at.take_shallow-requires c).In_ok-read in (
      line-shallow c.args.here.line _ M _ c.field-f.ensures c.max.ensures c.if-read-gt-MOST_DEPTH.false,
      refl,
    )

pub returns : goal.returns
unfolding record_in
returns c =
    let s = c.args.here.line.text.now in
    let M = read_is (goal.at.returns c).In_ok-read in
    let f = c.field-f in
    let here : Letting =
    record { at = f.result.at; len = f.result.len; count = c.max.result; line = c.args.here.number } in
    let S = c.take_shallow in (
      subst (λ (q : Option Formula). Took S.new.ops c.args.here
          (let_in (name_in s c.args.x) q) S.result)
          (line-field c.args.here.line _ M here f.ensures.holds) S.ensures.0,
      S.ensures.1,
    )
