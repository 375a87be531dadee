-- `search::put::put_step` meets its contract: the group goes on, ends at zero, or is written. Assumes nothing.
use mathlib.Core.Path.{◌≡◌, sym, ◌∙◌}
use native.Mathlib.Omega.{arith}
use Prim.Native.Nat.{ℕ, suc, ◌+◌, ◌*◌, ◌-◌}
use lib.ListN.{get_or, take, drop}
use Rattle.field.specs.Field.{power, times}
use Rattle.field.specs.Maps.{list_of}
use Rattle.field.specs.Xor as X
use Rattle.field.specs.Xor.{◌⊕◌}
use Rattle.buffer.proofs.Lent.Strides.{pos_of_ne}
use Rattle.search.proofs.Lent.Groups.{gathered}
use Rattle.search.proofs.Lent.Passing.{sum-here, step_on, step-none, step_write}
use Rattle.search.proofs.put.put_step.Goals as goal
use Rattle.search.proofs.put.put_step.Goals.{After-times}

-- the sum with the value of term j, by the table of the powers of x
sum-now : (c : After-times) →
    let a = c.args in
    (x : ℕ) → a.table.now ≡ list_of 256 (power (times a.m) x)
    → a.g.sum ⊕ c.times.result ≡ gathered a.m a.i x a.g.sum (get_or a.b.now (a.j * a.w) 0)
    (take (a.w - 1) (drop (suc (a.j * a.w)) a.b.now))
sum-now c x t =
    let a = c.args in
    sum-here a.m a.b.now a.k a.w a.i x a.j a.g.terms a.g.sum
    c.requires a.table.now c.times.result t
    (omega (arith, c.type_inv.b (a.j * a.w + 1 + a.i))) c.times.ensures

pub returns-then-same_group : goal.returns-then-same_group
unfolding X.◌⊕◌
returns-then-same_group c =
    let a = c.args in
    let h = c.requires in
    λ x t.
    step_on a.m a.b.now a.k a.w a.i x a.j a.g.terms a.g.sum h
    (a.g.sum ⊕ c.times.result) (sum-now (goal.at.returns-then-same_group c).After-times x t)
    (sym c.if-same_group.true ∙ c.same_group.ensures)

pub returns-then-sum-eq0 : goal.returns-then-sum-eq0
unfolding X.◌⊕◌
returns-then-sum-eq0 c =
    let a = c.args in
    let h = c.requires in
    λ x t.
    step-none a.m a.b.now a.k a.w a.i x a.j a.g.terms a.g.sum h
    (a.g.sum ⊕ c.times.result) (sum-now (goal.at.returns-then-sum-eq0 c).After-times x t)
    (sym c.if-same_group.false ∙ c.same_group.ensures)
    c.if-sum-eq0.true

pub returns : goal.returns
unfolding X.◌⊕◌
returns c =
    let a = c.args in
    let h = c.requires in
    let g' = c.write_group in
    λ x t.
    step_write a.m a.b.now a.k a.w a.i x a.j a.g.terms a.g.sum h
    (a.g.sum ⊕ c.times.result) (sum-now (goal.at.returns c).After-times x t) g'.new.b
    (sym c.if-same_group.false ∙ c.same_group.ensures) (pos_of_ne _ c.if-sum-eq0.false) g'.ensures
