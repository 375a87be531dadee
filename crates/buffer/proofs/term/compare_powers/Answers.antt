use mathlib.Core.Path.{◌∙◌}
use native.Mathlib.Omega.{arith}
use Rattle.buffer.proofs.Lent.Compare.{differ_at}
use Rattle.buffer.proofs.term.compare_powers.Goals as goal

pub returns-then-a-k : goal.returns-then-a-k
returns-then-a-k c =
    c.cmp.ensures
    ∙ differ_at c.args.a.now c.args.b.now c.loop-k.k (omega arith) (omega arith) c.requires c.loop-k.invariant
    c.if-a-k.true
