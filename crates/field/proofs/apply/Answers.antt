use Prim.Native.Nat.{ℕ}
use mathlib.Core.Path.{◌≡◌, sym, ap, ◌∙◌}
use native.Mathlib.Nat.{div-one}
use native.Mathlib.Omega.{arith}
use lib.ListN.{get_or}
use Rattle.field.specs.Xor.{◌⊕◌}
use Rattle.field.specs.Maps
use Rattle.field.specs.Maps.{affine, linear}
use Rattle.field.proofs.Laws.Xor.{⊕-zero, ⊕-comm}
use Rattle.field.proofs.Laws.Steps.{part, shift-next, column-set, column_clear}
use Rattle.field.proofs.apply.Goals as goal
use Rattle.field.proofs.apply.Goals.{else-y-eq1, then-y-eq1}

pub loop-column-init : goal.loop-column-init
unfolding Maps.sum
loop-column-init c = (sym (div-one c.args.x), sym (⊕-zero c.args.c))

pub loop-column-preserved : goal.loop-column-preserved
unfolding ◌⊕◌
loop-column-preserved c =
    let l = c.loop-column in
    let g = c.args in
    let h = l.invariant in (
      shift-next g.x l.y l.column-index h.0,
      elim c.if-y-eq1.branch [
        | then-y-eq1 w ↦
            w.sum-is ∙ ⊕-comm l.sum (get_or g.columns l.column-index 0)
            ∙ column-set g.c g.columns l.sum g.x l.y l.column-index h.0 h.1 w.if-y-eq1.true
        | else-y-eq1 w ↦
            w.sum-is ∙ column_clear g.c g.columns l.sum g.x l.y l.column-index h.0 h.1 w.if-y-eq1.false
      ],
    )

pub returns : goal.returns
unfolding affine linear
returns c =
    let l = c.loop-column in
    let g = c.args in
    let e : l.column-index ≡ 8 = omega arith in
    l.invariant.1 ∙ ap (λ (n : ℕ). g.c ⊕ Maps.sum n (part g.columns g.x)) e
