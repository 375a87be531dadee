use native.Mathlib.Omega.{arith}
use Rattle.buffer.proofs.Lent.Adding.{add_done, add_asks, add-more}
use Rattle.buffer.proofs.add.add_terms.Goals as goal

pub insert_term-n-requires : goal.insert_term-n-requires
insert_term-n-requires c = add_asks c.loop-j.invariant (omega arith)

pub loop-j-preserved : goal.loop-j-preserved
loop-j-preserved c = add-more c.loop-j.invariant (omega arith) c.insert_term-n.ensures

pub returns : goal.returns
returns c = add_done c.loop-j.invariant (omega arith)
