-- `field::times` meets its contract. The loop's invariant: what was added and what is still to be added make the
-- product.
-- Assumes nothing.
use Prim.Native.Nat.{◌-◌}
use mathlib.Core.Path.{◌≡◌}
use Rattle.field.specs.Xor.{◌⊕◌}
use Rattle.field.specs.Field.{shifted}
use Rattle.field.proofs.times.Given as goal

abbrev pub invariant-loop-i : goal.invariant-loop-i
invariant-loop-i l = l.sum ⊕ shifted l.m (8 - l._i) l.x l.y ≡ shifted l.m 8 l.a l.b
