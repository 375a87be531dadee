use Prim.Native.Nat.{ℕ}
use mathlib.Core.Path.{◌≡◌, refl, sym, ap, ap₂, ◌∙◌}
use native.Mathlib.Omega.{arith}
use lib.ListN.{get_or}
use Rattle.field.specs.Xor.{◌⊕◌}
use Rattle.field.specs.Field.{times}
use Rattle.field.specs.Maps
use Rattle.field.specs.Maps.{coefficient}
use Rattle.field.proofs.Laws.Xor.{⊕-comm}
use Rattle.field.proofs.Laws.Steps.{term, sum-next}
use Rattle.field.proofs.coefficient.Goals as goal

pub loop-i-init : goal.loop-i-init
unfolding Maps.sum
loop-i-init c = refl

pub loop-i-preserved : goal.loop-i-preserved
unfolding ◌⊕◌
loop-i-preserved c =
    let l = c.loop-i in
    let g = c.args in
    ap₂ ◌⊕◌ l.invariant (c.times-sum.ensures ∙ ap (times g.m (get_or g.columns l.i 0)) c.dual_squared.ensures)
    ∙ ⊕-comm (Maps.sum l.i (term g.m g.columns g.j)) (term g.m g.columns g.j l.i)
    ∙ sym (sum-next l.i (term g.m g.columns g.j))

pub returns : goal.returns
unfolding coefficient
returns c =
    let l = c.loop-i in
    let g = c.args in
    let e : l.i ≡ 8 = omega arith in
    l.invariant ∙ ap (λ (n : ℕ). Maps.sum n (term g.m g.columns g.j)) e
