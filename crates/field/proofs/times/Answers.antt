use Prim.Native.Nat.{ℕ, ◌+◌, ◌-◌, ◌/◌, ◌%◌, ◌<◌}
use mathlib.Core.Path.{◌≡◌, sym, ap, ap₂, ◌∙◌}
use native.Mathlib.Nat.{mod-eq_of_lt}
use native.Mathlib.Omega.{arith}
use Rattle.field.specs.Xor.{◌⊕◌}
use Rattle.field.specs.Field.{shifted, times}
use Rattle.field.proofs.Laws.Xor.{zero-⊕, ⊕-zero}
use Rattle.field.proofs.Laws.Steps.{bit-set, bit_clear}
use Rattle.field.proofs.times.Goals as goal
use Rattle.field.proofs.times.Goals.{else-y-eq1, then-y-eq1}

pub loop-i-init : goal.loop-i-init
loop-i-init c = zero-⊕ (shifted c.args.m 8 c.args.a c.args.b)

pub loop-i-preserved : goal.loop-i-preserved
unfolding ◌⊕◌
loop-i-preserved c =
    let l = c.loop-i in
    let m = c.args.m in
    let n : ℕ = 8 - l._i in
    let more : 0 < n = omega arith in
    let e : 8 - (l._i + 1) ≡ n - 1 = omega arith in
    ap (λ (k : ℕ). c.if-y-eq1.sum ⊕ shifted m k c.doubled-x.result (l.y / 2)) e
    ∙ elim c.if-y-eq1.branch [
      | then-y-eq1 w ↦ ap₂ (λ (s x : ℕ). s ⊕ shifted m (n - 1) x (l.y / 2)) w.sum-is c.doubled-x.ensures
          ∙ bit-set m n l.sum l.x l.y more w.if-y-eq1.true
      | else-y-eq1 w ↦ ap₂ (λ (s x : ℕ). s ⊕ shifted m (n - 1) x (l.y / 2)) w.sum-is c.doubled-x.ensures
          ∙ bit_clear m n l.sum l.x l.y more w.if-y-eq1.false
    ]
    ∙ l.invariant

pub returns : goal.returns
unfolding times shifted
returns c =
    let l = c.loop-i in
    let g = c.args in
    let z : 8 - l._i ≡ 0 = omega arith in
    let a : g.a % 256 ≡ g.a = mod-eq_of_lt (omega arith) in
    sym (⊕-zero l.sum) ∙ ap (λ (k : ℕ). l.sum ⊕ shifted g.m k l.x l.y) (sym z) ∙ l.invariant
    ∙ ap (λ (k : ℕ). shifted g.m 8 k g.b) (sym a)
