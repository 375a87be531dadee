-- `search::search::search` meets its contract. The invariants: `Finding` over the variables, `Trying` over the
-- bytes. Assumes nothing.
use Prim.Native.Nat.{◌-◌}
use Rattle.search.proofs.Lent.Searching.{Trying}
use Rattle.search.proofs.Lent.Searching.{Finding}
use Rattle.search.proofs.search.search.Given as goal

abbrev pub invariant-loop-left : goal.invariant-loop-left
invariant-loop-left l = Trying l.m l.w l.i l.initial.b l.initial.left l.initial.tried l.b l.left l.tried l.a

abbrev pub decreases-loop-left : goal.decreases-loop-left
decreases-loop-left l = 256 - l.a

abbrev pub invariant-loop-i : goal.invariant-loop-i
invariant-loop-i l = Finding l.m l.initial.b l.k l.w l.initial.bytes l.b l.bytes l.left l.tried l.i
