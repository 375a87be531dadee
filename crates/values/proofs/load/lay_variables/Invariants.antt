-- The invariant: the first j variables are laid. Assumes nothing.
use Rattle.std.proofs.Common.{◌-◌}
use Rattle.poly.specs.Poly.{units}
use Rattle.values.specs.Shelf.{Laid}
use Rattle.values.proofs.load.lay_variables.Given as goal

abbrev pub invariant-loop-j : goal.invariant-loop-j
invariant-loop-j l = Laid l.w l.initial.b l.b l.at l.j (units (l.w - 1) l.i l.j)
