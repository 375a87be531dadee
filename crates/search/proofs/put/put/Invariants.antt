-- `search::put::put` meets its contract. The invariant: `InPut`. Assumes nothing.
use mathlib.Core.Path.{◌≡◌}
use Rattle.field.specs.Field.{times, power}
use Rattle.field.specs.Maps.{list_of}
use Rattle.search.proofs.Lent.Putting.{InPut}
use Rattle.search.proofs.put.put.Given as goal

abbrev pub invariant-loop-j : goal.invariant-loop-j
invariant-loop-j l = record {
  powers : l.table ≡ list_of 256 (power (times l.m) l.a);
  read : InPut l.m l.initial.b l.k l.w l.i l.a l.b l.g.terms l.g.sum l.j;
}
