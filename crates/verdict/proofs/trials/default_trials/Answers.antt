-- The defaults. Assumes nothing.
use Rattle.std.proofs.Common.{refl}
use Rattle.verdict.specs.Judge.{default_trials}
use Rattle.verdict.proofs.trials.default_trials.Goals as goal

pub returns : goal.returns
unfolding default_trials
returns c = refl
