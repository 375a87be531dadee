-- `field::dual` meets its contract: its two tables are the definition's. Assumes nothing.
use borrow.Author.Tests.{eq-eqb, ne_eqb}
use Rattle.field.specs.Maps.{dual_of}
use Rattle.field.proofs.dual.Goals as goal

pub returns-then-m-eq29 : goal.returns-then-m-eq29
unfolding dual_of
returns-then-m-eq29 c = rw (eq-eqb c.args.m 29 c.if-m-eq29.true)

pub returns-else-m-eq29 : goal.returns-else-m-eq29
unfolding dual_of
returns-else-m-eq29 c = rw (ne_eqb c.args.m 29 c.if-m-eq29.false)
