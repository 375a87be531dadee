-- `verdict::block::applied` meets its contract. Assumes nothing.
use Rattle.verdict.specs.Instances.{bytes}
use Rattle.std.proofs.Common.{rules}
use Rattle.verdict.proofs.block.applied.Goals as goal

pub returns : goal.returns
unfolding bytes
returns c = search rules
