-- The line ahead says what is handed out. Assumes nothing.
use native.Mathlib.Omega.{arith}
use Rattle.std.specs.Prelude.{Some as some}
use mathlib.Core.Path.{◌≡◌, ap, sym, ◌∙◌}
use Rattle.grammar.specs.declared.line.Line.{Line}
use Rattle.reader.specs.declared.cursor.Ahead.{Ahead}
use Rattle.reader.specs.Cursor.{look_at}
use Rattle.reader.specs.Reader.{ahead_given, record_ahead}
use Rattle.reader.proofs.Laws.Ahead.{look-line, look-unended, end_ge}
use Rattle.reader.proofs.Laws.Handed.{placed_in, ahead-told}
use Rattle.reader.proofs.handed.hand_out.Goals as goal
use Rattle.reader.proofs.handed.hand_out.Goals.{After-look}

-- the answer x of `look` is the line ahead
seen : (c : After-look) {x : Ahead} → c.look.result ≡ x
    → x ≡ look_at c.args.s.now c.placed-p.result
seen c e = sym e ∙ c.look.ensures

-- it tells what is handed out
told : (c : After-look) {x : Ahead} → c.look.result ≡ x
    → let a = c.args in
    some (ahead_given a.s.now c.placed-p.result x) ≡ some (record_ahead a.s.now a.at a.line)
told c e =
    let a = c.args in
    let P = c.placed-p in
    ap some (ahead-told a.s.now a.at a.line P.result P.ensures (seen c e))

pub look-requires : goal.look-requires
look-requires c = placed_in _ _ _ _ c.placed-p.ensures

pub invariant_of-hand_line : goal.invariant_of-hand_line
invariant_of-hand_line c =
    let s = c.args.s.now in
    let p = c.placed-p.result in
    let A = look-line s p _ _ (seen (goal.at.invariant_of-hand_line c).After-look c.in-Line.is) in
    let from = ap (λ (l : Line). l.from) A.1 in
    let len = ap (λ (l : Line). l.len) A.1 in
    omega (arith, from, len, A.0, end_ge s p.at)

pub hand_last-requires : goal.hand_last-requires
hand_last-requires c =
    let s = c.args.s.now in
    let P = c.placed-p in
    let A = look-unended s P.result _ (seen (goal.at.hand_last-requires c).After-look c.in-Unended.is) in
    omega (arith, A.1, (placed_in _ _ _ _ P.ensures).1)

pub returns-in-Line : goal.returns-in-Line
returns-in-Line c = c.hand_line.ensures ∙ told (goal.at.returns-in-Line c).After-look c.in-Line.is

pub returns-in-Unended : goal.returns-in-Unended
returns-in-Unended c = c.hand_last.ensures ∙ told (goal.at.returns-in-Unended c).After-look c.in-Unended.is

pub returns-in-End : goal.returns-in-End
returns-in-End c = told (goal.at.returns-in-End c).After-look c.in-End.is
