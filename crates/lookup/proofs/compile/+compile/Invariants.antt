-- The measure is what is left of the field.
use Prim.Native.Nat.{◌-◌}
use lib.ListN.{length}
use Rattle.lookup.proofs.compile.+compile.Given as goal

abbrev pub decreases-compile : goal.decreases-compile
decreases-compile l = length l.w.field.now - l.at
