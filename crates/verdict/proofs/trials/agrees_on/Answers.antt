-- Both results, compared. Assumes nothing.
use Rattle.verdict.specs.Trials.{agrees_on}
use Rattle.verdict.proofs.trials.agrees_on.Goals as goal

pub returns : goal.returns
unfolding agrees_on
returns c = rw (c.original.ensures, c.masked.ensures)
