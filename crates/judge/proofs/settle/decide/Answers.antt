-- Given up in a block, given up at the output line, or decided by the difference. Assumes nothing.
use Rattle.judge.proofs.Laws.Settling.{decided-given_up, decided-settled, last_over_lem, last_none}
use Rattle.judge.proofs.settle.decide.Goals as goal

pub returns-in-Err : goal.returns-in-Err
returns-in-Err c = decided-given_up (c.survey.ensures.given _ c.in-Err.is) c.give_up.ensures

pub returns-then-d-difference_raw : goal.returns-then-d-difference_raw
returns-then-d-difference_raw c =
    let S = c.survey.ensures.stands _ c.in-Ok.is in
    decided-given_up (last_over_lem S c.difference_raw.ensures c.if-d-difference_raw.true)
    c.give_up-then-d-difference_raw.ensures

pub returns : goal.returns
returns c =
    let S = c.survey.ensures.stands _ c.in-Ok.is in
    decided-settled (last_none S c.difference_raw.ensures c.if-d-difference_raw.false) c.settle.ensures
