-- Unknown, or found with its bytes. Assumes nothing.
use Rattle.std.proofs.Common.{◌≤◌, length, rules}
use Rattle.judge.proofs.Laws.Giving.{front-copied, gave_unknown, gave_found}
use Rattle.judge.proofs.give_up.give_up.Goals as goal

pub returns-in-None : goal.returns-in-None
returns-in-None c =
    let a = c.args in
    gave_unknown a.r.routine a.t a.line _ c.try_all.ensures c.in-None.is c.given_up.ensures

pub returns-in-Some : goal.returns-in-Some
returns-in-Some c =
    let a = c.args in
    let bs = c.in-Some.last.bytes in
    let h : a.r.routine.variables ≤ length bs = search rules in
    gave_found a.r.routine a.t a.line _ c.try_all.ensures c.in-Some.is
    (front-copied a.r.routine.variables bs c.copy_from_slice.new.self _ h c.copy_from_slice.ensures.after)
    c.given_up-in-Some.ensures
