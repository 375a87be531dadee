use Rattle.rules.specs.declared.types.Op.TheVariants.{Rand}
use Rattle.rules.specs.declared.types.Op.{Op}
use Rattle.grammar.specs.declared.line.Line.{Line}
use Rattle.reader.specs.declared.cursor.Cursor.{Cursor}
use Rattle.reader.specs.declared.cursor.Ahead.{Ahead}
use Rattle.reader.specs.Cursor.{look_at}
use Rattle.text.specs.Reading.{Answer, ReadingIs}
use Rattle.tokens.specs.Refusal.{number}
use Rattle.tokens.specs.Ascii.{line_feed}
use Rattle.tokens.specs.Split.{pieces}
use Rattle.reader.proofs.Laws.Ahead.{look-line, end_ge}
use Rattle.lines.specs.Known.{arrays, Kept, kept, Sized}
use Rattle.rules.specs.Limits.{most_statements}
use Rattle.rules.specs.State.{State, start}
use Rattle.rules.specs.Read.{refused, take_lines}
use Rattle.text.proofs.Laws.Stored.{kept-after, sized-after, blank-sized, blank-means}
use Rattle.text.proofs.Laws.Walk.{line_refused, line_taken, text-unended, text-ended}
use native.Mathlib.Omega.{arith}
use Prim.Native.Nat.{ℕ}
use mathlib.Core.List.{List}
use mathlib.Core.Path.{◌≡◌, ap, sym, ◌∙◌, subst}
use lib.ListN.{drop, length-replicate}
use Rattle.std.proofs.Common.{rules}
use Rattle.std.specs.Prelude.{Ok, Err}
use Rattle.text.proofs.read.read_lines.Goals as goal
use Rattle.text.proofs.read.read_lines.Goals.{After-look, At-loop-l}

-- the text
abbrev text_of : (c : At-loop-l) → List ℕ
text_of c = c.args.s.now

-- what the loop holds where it begins a line
abbrev held : (c : At-loop-l) → Kept
held c = kept c.loop-l.table c.loop-l.h.known (arrays c.loop-l.maps c.loop-l.statements)

-- the answer x of `look` is the line ahead
seen : (c : After-look) {x : Ahead} → c.look.result ≡ x
    → x ≡ look_at c.args.s.now c.loop-l.c
seen c e = sym e ∙ c.look.ensures

pub loop-l-init : goal.loop-l-init
loop-l-init c =
    let s = c.args.s.now in
    let from = c.args.from in
    let t = c.none-table in
    let k = c.begin-h in
    let N = c.empty-none in
    let M = blank-means s t.result k.result.known N.result k.ensures in (
      c.requires.0,
      c.requires.1,
      c.requires.2,
      blank-sized t.result k.result.known N.result t.ensures N.ensures,
      length-replicate {A = Op} most_statements (Rand 0),
      ap (λ (st : State). take_lines st from.line (pieces line_feed (drop from.at s))) (sym M),
    )

pub invariant_of-l : goal.invariant_of-l
invariant_of-l c =
    let s = text_of (goal.at.invariant_of-l c).At-loop-l in
    let L = c.loop-l in
    let A = look-line s L.c _ _ (seen (goal.at.invariant_of-l c).After-look c.in-Line.is) in
    let from = ap (λ (l : Line). l.from) A.1 in
    let len = ap (λ (l : Line). l.len) A.1 in
    omega (arith, from, len, A.0, end_ge s L.c.at)

pub returns-in_err-step-in-Line : goal.returns-in_err-step-in-Line
returns-in_err-step-in-Line c =
    let F = c.in_err-step-in-Line.field-0.0 in
    let q : c.from_residual.result ≡ Err F = search rules in
    let was : c.take_line.result ≡ Err F.refusal = search rules in
    let line : F.line ≡ c.in-Line.next.line = search rules in
    let T = c.take_line in
    let L = c.loop-l in
    let a = seen (goal.at.returns-in_err-step-in-Line c).After-look c.in-Line.is in
    let told = T.ensures.0.outcome (arrays L.maps L.statements) L.invariant.3 in
    let lines = line_refused (text_of (goal.at.returns-in_err-step-in-Line c).At-loop-l)
    (held (goal.at.returns-in_err-step-in-Line c).At-loop-l) L.c L.invariant.5 _ _ a T.result told F.refusal was in
    subst (λ (r : Answer). ReadingIs r (take_lines start c.args.from.line
    (pieces line_feed (drop c.args.from.at c.args.s.now)))) (sym q) (record {
      answer = ap (refused (number F.refusal)) line ∙ lines;
      held = tt;
    })

pub loop-l-smaller : goal.loop-l-smaller
loop-l-smaller c =
    let s = text_of (goal.at.loop-l-smaller c).At-loop-l in
    let L = c.loop-l in
    let A = look-line s L.c _ _ (seen (goal.at.loop-l-smaller c).After-look c.in-Line.is) in
    let at = ap (λ (n : Cursor). n.at) A.2 in
    omega (arith, at, A.0, end_ge s L.c.at)

pub loop-l-preserved : goal.loop-l-preserved
loop-l-preserved c =
    let x = c.in_ok-step-in-Line in
    let was : c.take_line.result ≡ Ok x.step = search rules in
    let T = c.take_line in
    let s = text_of (goal.at.loop-l-preserved c).At-loop-l in
    let L = c.loop-l in
    let h = held (goal.at.loop-l-preserved c).At-loop-l in
    let a = seen (goal.at.loop-l-preserved c).After-look c.in-Line.is in
    let A = look-line s L.c _ _ a in
    let told = T.ensures.0.outcome (arrays L.maps L.statements) L.invariant.3 in
    let P = rw was at T.ensures.0.step in
    let at = ap (λ (n : Cursor). n.at) A.2 in
    let line = ap (λ (n : Cursor). n.line) A.2 in
    let size = T.ensures.1 ∙ L.invariant.4 in
    let same = kept-after s h x.step T.new.ops P.lets size
    c.store_map.ensures c.store_names.ensures c.store_statements.ensures in (
      omega (arith, at, A.0),
      omega (arith, at, line, end_ge s L.c.at, L.invariant.1),
      L.invariant.2,
      subst (λ (q : Kept). Sized q) (sym same) (sized-after s h x.step L.invariant.3),
      size,
      line_taken s h L.c L.invariant.5 _ _ a T.result told x.step was same,
    )

pub returns-in-Unended : goal.returns-in-Unended
returns-in-Unended c =
    let a = seen (goal.at.returns-in-Unended c).After-look c.in-Unended.is in
    subst (ReadingIs c.unended.result) (text-unended (text_of (goal.at.returns-in-Unended c).At-loop-l)
    (held (goal.at.returns-in-Unended c).At-loop-l) c.loop-l.c c.loop-l.invariant.5 _ a)
    c.unended.ensures

pub returns-in-End : goal.returns-in-End
returns-in-End c =
    let L = c.loop-l in
    let a = seen (goal.at.returns-in-End c).After-look c.in-End.is in
    subst (ReadingIs c.end.result) (text-ended (text_of (goal.at.returns-in-End c).At-loop-l)
    (held (goal.at.returns-in-End c).At-loop-l) L.c L.invariant.5 L.invariant.0 a)
    (c.end.ensures (text_of (goal.at.returns-in-End c).At-loop-l) L.table)
