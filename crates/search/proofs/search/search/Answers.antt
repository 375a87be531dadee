-- `search::search::search` meets its contract. Assumes nothing.
use native.Mathlib.Omega.{arith}
use Prim.Native.Nat.{◌+◌}
use Rattle.search.proofs.Lent.Searching.{Trying, trying_bound, trying_asks, trying_more}
use Rattle.search.proofs.Lent.Searching.{finding_start, finding_more}
use Rattle.search.proofs.search.search.Goals as goal
use Rattle.search.proofs.search.search.Goals.{Else-r-gt0}

-- with no term left the next byte is tried
next_here : (c : Else-r-gt0) →
    let l = c.loop-i in
    let d = c.loop-left in
    Trying c.args.m c.args.w l.i l.b l.left l.tried c.put-r.new.b d.left (d.tried + 1) (d.a + 1)
next_here c = trying_more c.loop-left.invariant c.put-r.ensures (omega arith)

pub loop-i-init : goal.loop-i-init
loop-i-init c = finding_start c.requires

pub put-r-requires : goal.put-r-requires
put-r-requires c = trying_asks c.loop-left.invariant

pub overflow_add-a : goal.overflow_add-a
overflow_add-a c = omega (arith, trying_bound (next_here (goal.at.overflow_add-a c).Else-r-gt0))

pub loop-left-preserved : goal.loop-left-preserved
loop-left-preserved c = next_here (goal.at.loop-left-preserved c).Else-r-gt0

pub loop-i-preserved : goal.loop-i-preserved
loop-i-preserved c = finding_more c.loop-i.invariant c.loop-left.invariant c.put-r.ensures (omega arith)
