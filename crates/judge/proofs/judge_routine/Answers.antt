-- What was lent is used and then cleared. Assumes nothing.
use Rattle.std.proofs.Common.{◌≡◌, ◌++◌, length, take, drop, replicate, rules}
use Rattle.judge.proofs.Laws.Judging.{cleared-front}
use Rattle.judge.proofs.judge_routine.Goals as goal

pub returns : goal.returns
returns c =
    let a = c.args in
    let d = c.decide-answer in
    let l : c.fill.new.self ≡ replicate (length (take a.n (d.new.left ++ drop a.n a.left.now))) 0 = search rules in
    let r : c.fill-2.new.self ≡ replicate (length (take a.n (d.new.right ++ drop a.n a.right.now))) 0 = search rules in
    record {
      decided = d.ensures;
      worked = cleared-front a.n a.left.now d.new.left _ c.requires.first d.auto.left l;
      helped = cleared-front a.n a.right.now d.new.right _ c.requires.second d.auto.right r;
    }
