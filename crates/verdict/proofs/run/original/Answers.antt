-- The inputs' values are put in front, the statements' values behind them, and the result is read. Assumes nothing.
use Rattle.verdict.proofs.Laws.Ran.{original_ran}
use Rattle.verdict.proofs.run.original.Goals as goal

pub returns : goal.returns
returns c =
    original_ran c.args.r _ _ _ _ _
    c.begin_origin.ensures c.fill.ensures c.value_at.ensures
