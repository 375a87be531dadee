use Rattle.std.proofs.Common.{◌≡◌, ℕ, ◌+◌, ◌-◌, ◌*◌, take, drop, ap, ◌∙◌, arith, drop-drop}
use Rattle.verdict.proofs.Laws.Parts.{row_next}
use Rattle.verdict.proofs.Laws.Turns.{inputs-more}
use Rattle.verdict.specs.Instances.{bytes}
use Rattle.verdict.specs.Meaning.{joined}
use Rattle.verdict.proofs.block.begin_origin.Goals as goal

pub loop-i-preserved : goal.loop-i-preserved
loop-i-preserved c =
    let l = c.loop-i in
    let g = c.args in
    let part : l.i * g.k + g.k - l.i * g.k ≡ g.k = omega arith in
    let value = c.join.ensures ∙ ap (λ (n : ℕ). joined (bytes g.m) (take n (drop (l.i * g.k) g.xs.now))) part in
    rw (row_next l.i g.k, ← drop-drop g.k (l.i * g.k) g.xs.now)
    (inputs-more (bytes g.m) l.vs (drop (l.i * g.k) g.xs.now) g.k l.i g.inputs c.join.result
    (omega arith) (omega arith) value
    ∙ l.invariant)
