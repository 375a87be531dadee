-- An index that is no place gives the default. Assumes nothing.
use Rattle.verdict.specs.Instances.{bytes}
use Rattle.verdict.specs.Meaning.{value_at}
use Rattle.std.proofs.Common.{rules}
use Rattle.verdict.proofs.block.value_at.Goals as goal

pub returns : goal.returns
unfolding value_at bytes
returns c = search rules
