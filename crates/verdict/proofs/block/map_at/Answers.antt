-- An index that is no place gives the default. Assumes nothing.
use Rattle.verdict.specs.Meaning.{map_at}
use Rattle.std.proofs.Common.{rules}
use Rattle.verdict.proofs.block.map_at.Goals as goal

pub returns : goal.returns
unfolding map_at
returns c = search rules
