use Prim.Native.Nat.{ℕ, ◌+◌, ◌-◌}
use mathlib.Core.Path.{◌≡◌, ap₂, ◌∙◌}
use native.Mathlib.Omega.{arith}
use Rattle.field.specs.Field.{times, squared}
use Rattle.field.proofs.Laws.Steps.{squared-next}
use Rattle.field.proofs.squares.Goals as goal

pub loop-i-preserved : goal.loop-i-preserved
loop-i-preserved c =
    let l = c.loop-i in
    let m = c.args.m in
    let n : ℕ = c.args.j - l._i in
    let e : c.args.j - (l._i + 1) ≡ n - 1 = omega arith in
    ap₂ (squared (times m)) e c.times-x.ensures ∙ squared-next (times m) n l.x (omega arith) ∙ l.invariant
