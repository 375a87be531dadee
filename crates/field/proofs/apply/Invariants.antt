-- `field::apply` meets its contract. The loop's invariant: y is x without the bits of the columns passed, and the sum
-- has the columns at those.
-- Assumes nothing.
use Prim.Native.Nat.{◌/◌, ◌^◌}
use mathlib.Core.Path.{◌≡◌}
use Rattle.field.specs.Xor.{◌⊕◌}
use Rattle.field.specs.Maps
use Rattle.field.proofs.Laws.Steps.{part}
use Rattle.field.proofs.apply.Given as goal

abbrev pub invariant-loop-column : goal.invariant-loop-column
invariant-loop-column l =
    (l.y ≡ l.x / 2 ^ l.column-index) × (l.sum ≡ l.c ⊕ Maps.sum l.column-index (part l.fn.columns l.x))
