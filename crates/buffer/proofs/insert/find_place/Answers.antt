use native.Mathlib.Omega.{arith}
use mathlib.Core.Path.{sym, ap, ◌∙◌}
use Rattle.buffer.proofs.Lent.Places.{between_up, answer-greater}
use Rattle.std.specs.Ordering.{is_gt}
use Rattle.buffer.proofs.insert.find_place.Goals as goal

pub loop-low-preserved-then-is_gt : goal.loop-low-preserved-then-is_gt
loop-low-preserved-then-is_gt c =
    let l = c.loop-low in
    let a = c.args in
    between_up a.b.now a.k a.t.now l.low l.high (omega arith) l.invariant
    (answer-greater _ (sym (ap is_gt c.compare_powers.ensures) ∙ sym c.is_gt.ensures ∙ c.if-is_gt.true))
