-- Each separator counts one. Assumes nothing.
use Rattle.std.proofs.Common.{ℕ, ◌≡◌, ◌+◌, length, List}
use Rattle.std.specs.List.{filter}
use Rattle.std.proofs.lemmas.List.Filters.{length-filter_more}
use Rattle.tokens.proofs.Laws.Library.{counted-pieces}
use borrow.Author.Tests.{eq-eqb, ne_eqb}
use lib.Dec.{eqb}
use lib.ListN.{get_or}
use lib.Seq.{take_all}
use native.Mathlib.Omega.{arith}
use mathlib.Core.Bool.{Bool, cond}
use mathlib.Core.Path.{ap, ◌∙◌}
use Rattle.tokens.proofs.split.count.Goals.{then-b-sep, else-b-sep}
use Rattle.tokens.proofs.split.count.Goals as goal

pub loop-b-preserved : goal.loop-b-preserved
loop-b-preserved c =
    let s = c.args in
    let L = c.loop-b in
    let more = length-filter_more (λ (b : ℕ). eqb b s.sep) s.s.now L.b-index 0 c.loop-b-test.true in
    let before = L.invariant.0 in
    let most = L.invariant.1 in
    elim c.if-b-sep.branch [
      | then-b-sep w ↦
          let one : ◌≡◌ {A = ℕ} (cond (eqb (get_or s.s.now L.b-index 0) s.sep) 1 0) 1 = ap {B = ℕ} (λ (q : Bool). cond q 1 0) (eq-eqb _ _ w.if-b-sep.true) in
          let is = w.n-is in (omega (arith, more), omega arith)
      | else-b-sep w ↦
          let none : ◌≡◌ {A = ℕ} (cond (eqb (get_or s.s.now L.b-index 0) s.sep) 1 0) 0 = ap {B = ℕ} (λ (q : Bool). cond q 1 0) (ne_eqb _ _ w.if-b-sep.false) in
          let is = w.n-is in (omega (arith, more), omega arith)
    ]

pub returns : goal.returns
returns c =
    let s = c.args in
    c.loop-b.invariant.0
    ∙ ap (λ (t : List ℕ). length (filter (λ b. eqb b s.sep) t) + 1) (take_all c.loop-b.b-index s.s.now c.loop-b-test.false)
    ∙ counted-pieces s.sep s.s.now
