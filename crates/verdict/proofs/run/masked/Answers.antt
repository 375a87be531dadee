-- The shares are put in front, the statements' values behind them, and the outputs joined. Assumes nothing.
use Rattle.verdict.proofs.Laws.Ran.{masked_ran}
use Rattle.verdict.proofs.run.masked.Goals as goal

pub returns : goal.returns
returns c =
    masked_ran c.args.r _ _ _ _ _
    c.begin_masked.ensures c.fill.ensures c.join_outputs.ensures
