-- The formula ends where the field does, or not. Assumes nothing.
use Rattle.std.specs.Prelude.{None, Some}
use Rattle.grammar.proofs.Laws.Paired.{field-read}
use Rattle.grammar.proofs.formula.read_formula.Goals as goal

pub returns-in_err-r : goal.returns-in_err-r
returns-in_err-r c = rw c.from_residual.ensures (field-read c.args.f.now None c.in_err-r.ensures)

pub returns : goal.returns
returns c = rw c.then_some.ensures (field-read c.args.f.now (Some c.in_ok-r.r) c.in_ok-r.ensures)
