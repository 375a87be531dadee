use Rattle.std.proofs.Common.{rules}
use Rattle.values.specs.Shelf.{shelved}
use Rattle.values.proofs.shelf.Shelf.put.Goals as goal

pub returns : goal.returns
unfolding shelved
returns c = search rules
