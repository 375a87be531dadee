-- The name has a place where it is given. Assumes nothing.
use Rattle.lookup.proofs.Laws.Placing.{found-given}
use mathlib.Core.Path.{◌∙◌}
use Rattle.lookup.proofs.names.Set.is_given.Goals as goal

pub returns : goal.returns
returns c = c.is_some.ensures ∙ found-given _ _ c.find.ensures
