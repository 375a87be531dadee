-- `field::coefficient` meets its contract. The loop's invariant: the sum has the terms of the i columns passed.
-- Assumes nothing.
use mathlib.Core.Path.{◌≡◌}
use Rattle.field.specs.Maps
use Rattle.field.proofs.Laws.Steps.{term}
use Rattle.field.proofs.coefficient.Given as goal

abbrev pub invariant-loop-i : goal.invariant-loop-i
invariant-loop-i l = l.sum ≡ Maps.sum l.i (term l.m l.fn.columns l.j)
