-- A number below 2^32 has a top byte. Assumes nothing.
use Rattle.std.proofs.Common.{rules}
use Rattle.verdict.specs.Trials.{top_byte}
use Rattle.verdict.proofs.trials.top_byte.Goals as goal

pub returns : goal.returns
unfolding top_byte
returns c = search rules
