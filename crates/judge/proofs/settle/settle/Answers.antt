-- `judge::settle::settle` meets its contract. The idle inputs are counted; then no term is left, or some. Assumes
-- nothing.
use Rattle.judge.proofs.Laws.Settling.{settled-equal, settled-differs}
use Rattle.judge.proofs.settle.settle.Goals as goal

pub returns-then-k-eq0 : goal.returns-then-k-eq0
returns-then-k-eq0 c =
    let a = c.args in
    let idle = c.idle-idle in
    let subtract = c.subtract-k in
    settled-equal a.r.routine a.list.now subtract.ensures.count c.if-k-eq0.true idle.ensures

pub returns : goal.returns
returns c =
    let a = c.args in
    let idle = c.idle-idle in
    let subtract = c.subtract-k in
    let if1 = c.if-k-eq0 in
    let choose = c.choose-tried in
    settled-differs a.r.routine subtract.ensures.count if1.false idle.ensures
    choose.ensures
