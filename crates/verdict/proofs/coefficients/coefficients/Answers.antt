-- Refused by the length, or the columns' coefficients. Assumes nothing.
use Rattle.verdict.specs.Coefficients.{map_report}
use Rattle.std.proofs.Common.{length, eq-eqb, ne_eqb}
use Rattle.verdict.proofs.coefficients.coefficients.Goals as goal

pub returns-then-list-ne9 : goal.returns-then-list-ne9
unfolding map_report
returns-then-list-ne9 c =
    record { answered = rw (ne_eqb (length c.args.list.now) 9 c.if-list-ne9.true, c.number.ensures) }

pub returns : goal.returns
unfolding map_report
returns c =
    let list = c.args.list.now in
    let nine = eq-eqb (length list) 9 c.if-list-ne9.false in
    record { answered = rw (nine, c.coefficients-found.ensures, c.columns_of-columns.ensures) }
