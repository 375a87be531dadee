-- `buffer::term::compare_powers` meets its contract. The invariant: behind power k nothing differs. Assumes nothing.
use mathlib.Core.Path.{◌≡◌}
use Prim.Native.Nat.{Ordering as Order}
use lib.ListN.{drop}
use Rattle.poly.specs.Poly.{order}
use Rattle.buffer.proofs.term.compare_powers.Given as goal

abbrev pub invariant-loop-k : goal.invariant-loop-k
invariant-loop-k l = order (drop l.k l.a) (drop l.k l.b) ≡ Order.eq
