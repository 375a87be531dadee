-- The supplied wrapping add. Assumes nothing.
use Rattle.std.proofs.Common.{rules}
use Rattle.verdict.specs.Trials.{stepped}
use Rattle.verdict.proofs.trials.stepped.Goals as goal

pub returns : goal.returns
unfolding stepped
returns c = search rules
