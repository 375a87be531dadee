-- The measure is what is left of the field.
use Prim.Native.Nat.{◌-◌}
use lib.ListN.{length}
use Rattle.grammar.proofs.formula.+formula.Given as goal

abbrev pub decreases-formula : goal.decreases-formula
decreases-formula l = length l.f.now - l.at
