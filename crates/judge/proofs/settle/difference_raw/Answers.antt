-- `judge::settle::difference_raw` meets its contract. The sizes by the directory are those of the values that stand.
-- Assumes nothing.
use Rattle.judge.proofs.Laws.Lasts.{last-sized}
use Rattle.judge.proofs.settle.difference_raw.Goals as goal

pub returns : goal.returns
returns c =
    let origin-scope = c.origin_scope-scope in
    let operand-size = c.operand_size-result in
    last-sized c.args.r.ready origin-scope.ensures c.masked_scope-scope.ensures _ _ operand-size.ensures
    c.outputs_size.ensures
