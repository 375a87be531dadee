-- `field::squares` meets its contract. The loop's invariant: x squared as often as is left is the answer. Assumes
-- nothing.
use Prim.Native.Nat.{◌-◌}
use mathlib.Core.Path.{◌≡◌}
use Rattle.field.specs.Field.{times, squared}
use Rattle.field.proofs.squares.Given as goal

abbrev pub invariant-loop-i : goal.invariant-loop-i
invariant-loop-i l = squared (times l.m) (l.j - l._i) l.x ≡ squared (times l.m) l.j l.a
