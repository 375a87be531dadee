-- `buffer::insert::insert_term` meets its contract: one of four outcomes. Assumes nothing.
use native.Mathlib.Omega.{arith}
use Rattle.buffer.proofs.Lent.Strides.{pos_of_ne}
use Rattle.buffer.proofs.Lent.Outcomes.{there-same, there-less, ins_zero, ins_more, ins_less, ins_coef}
use Rattle.field.specs.Xor as X
use Rattle.buffer.proofs.insert.insert_term.Goals as goal
use Rattle.buffer.proofs.insert.insert_term.Goals.{else-i-k-via-then-i-k+else-is_eq, else-i-k-via-else-i-k}

pub returns-then-c-eq0 : goal.returns-then-c-eq0
unfolding X.◌⊕◌
returns-then-c-eq0 c =
    let a = c.args in
    let r = c.requires in
    let f = c.find_place-i in
    let l = c.if-i-k.true in
    λ m'.
    ins_less m' a.b.now a.k f.result a.t.now c.move_down.new.b r.some r.room f.ensures l
    (there-same a.b.now a.t.now a.k f.result r.some r.room l c.compare_powers.ensures c.is_eq.ensures c.if-is_eq.true)
    c.if-c-eq0.true c.move_down.ensures

pub returns-then-is_eq : goal.returns-then-is_eq
unfolding X.◌⊕◌
returns-then-is_eq c =
    let a = c.args in
    let r = c.requires in
    let f = c.find_place-i in
    let l = c.if-i-k.true in
    λ m'.
    ins_coef m' a.b.now a.k f.result a.t.now r.some r.room f.ensures l
    (there-same a.b.now a.t.now a.k f.result r.some r.room l c.compare_powers.ensures c.is_eq.ensures c.if-is_eq.true)
    (pos_of_ne _ c.if-c-eq0.false)

pub returns-then-t-eq0 : goal.returns-then-t-eq0
returns-then-t-eq0 c =
    let a = c.args in
    let r = c.requires in
    let f = c.find_place-i in
    λ m'.
    ins_zero m' a.b.now a.k f.result a.t.now r.some f.ensures
    (λ l. elim c.else-i-k.branch [
      | else-i-k-via-then-i-k+else-is_eq w ↦
          there-less a.b.now a.t.now a.k f.result r.some r.room l w.compare_powers.ensures w.is_eq.ensures
          w.if-is_eq.false f.ensures
      | else-i-k-via-else-i-k w ↦ absurd (omega arith)
    ]) c.if-t-eq0.true

pub returns : goal.returns
returns c =
    let a = c.args in
    let r = c.requires in
    let f = c.find_place-i in
    λ m'.
    ins_more m' a.b.now a.k f.result a.t.now c.move_up.new.b c.write_at.new.b r.some r.room f.ensures
    (λ l. elim c.else-i-k.branch [
      | else-i-k-via-then-i-k+else-is_eq w ↦
          there-less a.b.now a.t.now a.k f.result r.some r.room l w.compare_powers.ensures w.is_eq.ensures
          w.if-is_eq.false f.ensures
      | else-i-k-via-else-i-k w ↦ absurd (omega arith)
    ]) (pos_of_ne _ c.if-t-eq0.false) c.move_up.ensures c.write_at.ensures
