use native.Mathlib.Omega.{arith}
use Rattle.field.specs.Field.{times, power}
use Rattle.field.proofs.Laws.Sums.{fill_done}
use Rattle.field.proofs.power_table.Goals as goal

pub returns : goal.returns
returns c =
    let l = c.loop-p in
    let g = c.args in
    fill_done 256 (power (times g.m) g.a) 0 l.p-items (omega arith) (λ k h. l.invariant.1 k (omega arith))
