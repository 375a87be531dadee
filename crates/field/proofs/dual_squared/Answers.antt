-- `field::dual_squared` meets its contract: an entry of the computed table, or the squares themselves. Assumes nothing.
use Rattle.field.proofs.Laws.Squares.{squared_dual}
use Rattle.field.proofs.dual_squared.Goals as goal

pub returns-then-j-lt8 : goal.returns-then-j-lt8
returns-then-j-lt8 c =
    squared_dual c.args.m c.args.i c.args.j c.if-m-eq27.true c.requires c.if-j-lt8.true
