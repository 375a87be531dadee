-- The line ahead says which place is behind it. Assumes nothing.
use native.Mathlib.Omega.{arith}
use mathlib.Core.Path.{◌≡◌, sym, ◌∙◌}
use Rattle.reader.specs.declared.cursor.Ahead.{Ahead}
use Rattle.reader.specs.Reader.{last_given, ahead_given, behind_of, place_behind}
use Rattle.reader.proofs.Laws.Ahead.{look-unended}
use Rattle.reader.proofs.Laws.Handed.{placed_in, behind-line, behind-told}
use Rattle.reader.proofs.handed.behind.Goals as goal
use Rattle.reader.proofs.handed.behind.Goals.{After-look}

-- the answer x of `look` tells the place behind what is handed out
told : (c : After-look) {x : Ahead} → c.look.result ≡ x
    → let a = c.args in let p = c.placed-p.result in
    behind_of p (ahead_given a.s.now p x) ≡ place_behind a.s.now a.at a.line
told c e =
    let a = c.args in
    let P = c.placed-p in
    behind-told a.s.now a.at a.line P.result P.ensures (sym e ∙ c.look.ensures)

pub look-requires : goal.look-requires
look-requires c = placed_in _ _ _ _ c.placed-p.ensures

pub overflow_add-result : goal.overflow_add-result
overflow_add-result c =
    let P = c.placed-p in
    let a = sym c.in-Unended.is ∙ c.look.ensures in
    record {
      fits = omega (
        arith,
        (look-unended c.args.s.now P.result _ a).1,
        (placed_in _ _ _ _ P.ensures).1,
        c.well_formed.0.0,
      );
    }

pub returns-in-Line : goal.returns-in-Line
returns-in-Line c =
    sym (behind-line c.args.s.now c.placed-p.result _ _)
    ∙ told (goal.at.returns-in-Line c).After-look c.in-Line.is

pub returns-in-Unended : goal.returns-in-Unended
unfolding last_given
returns-in-Unended c = told (goal.at.returns-in-Unended c).After-look c.in-Unended.is

pub returns-in-End : goal.returns-in-End
returns-in-End c = told (goal.at.returns-in-End c).After-look c.in-End.is
