use Prim.Native.Nat.{ℕ, ◌/◌, ◌<◌}
use mathlib.Core.Path.{◌≡◌, sym, ap, ap₂, ◌∙◌, subst}
use native.Mathlib.Omega.{arith}
use lib.Dec.{lit<}
use Rattle.field.specs.Field.{times, power}
use Rattle.field.proofs.Laws.Ring.{ring}
use Rattle.field.proofs.Laws.Algebra.{pow_byte, mul-one}
use Rattle.field.proofs.Laws.Product.{times_lt}
use Rattle.field.proofs.Laws.Steps.{power-odd, power_even}
use Rattle.field.proofs.power.Goals as goal
use Rattle.field.proofs.power.Goals.{else-n-eq1, then-n-eq1}

pub loop-n-init : goal.loop-n-init
loop-n-init c =
    let g = c.args in
    let R = ring g.m (omega arith) in
    (lit< tt, R.one-mul (power (times g.m) g.a g.e) (pow_byte R g.a g.e))

pub loop-n-preserved : goal.loop-n-preserved
loop-n-preserved c =
    let l = c.loop-n in
    let m = c.args.m in
    let hm : m < 256 = omega arith in
    elim c.if-n-eq1.branch [
      | then-n-eq1 w ↦ (
        subst (λ (x : ℕ). x < 256) (sym (w.result-is ∙ w.times-result.ensures)) (times_lt m l.result l.x hm),
        ap₂ (λ (r x : ℕ). times m r (power (times m) x (l.n / 2))) (w.result-is ∙ w.times-result.ensures)
            c.times-x.ensures
            ∙ power-odd m hm l.result l.x l.n w.if-n-eq1.true ∙ l.invariant.1,
      )
      | else-n-eq1 w ↦ (
        subst (λ (x : ℕ). x < 256) (sym w.result-is) l.invariant.0,
        ap₂ (λ (r x : ℕ). times m r (power (times m) x (l.n / 2))) w.result-is c.times-x.ensures
            ∙ power_even m hm l.result l.x l.n w.if-n-eq1.false ∙ l.invariant.1,
      )
    ]

pub returns : goal.returns
returns c =
    let l = c.loop-n in
    let m = c.args.m in
    let z : l.n ≡ 0 = omega arith in
    sym (mul-one (ring m (omega arith)) l.result l.invariant.0)
    ∙ ap (λ (k : ℕ). times m l.result (power (times m) l.x k)) (sym z) ∙ l.invariant.1
