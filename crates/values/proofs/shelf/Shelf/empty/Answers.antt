use Rattle.std.proofs.Common.{rules}
use Rattle.values.specs.Shelf.{bare}
use Rattle.values.proofs.shelf.Shelf.empty.Goals as goal

pub returns : goal.returns
unfolding bare
returns c = search rules
