-- The invariant: the first f maps are listed. Assumes nothing.
use Rattle.std.proofs.Common.{take}
use Rattle.survey.specs.Table.{Listed, Constants}
use Rattle.survey.proofs.table.list_maps.Given as goal

abbrev pub invariant-loop-f : goal.invariant-loop-f
invariant-loop-f l = Listed l.m (take l.f l.maps) l.t.lists 8 × Constants (take l.f l.maps) l.t.constants 8
