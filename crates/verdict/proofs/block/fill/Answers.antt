use Rattle.std.proofs.Common.{◌≡◌, ◌+◌, ◌-◌, length, take, sym, ◌∙◌, arith, rules, length-take-le, length-drop}
use Rattle.text.specs.Routine.{maps_of}
use Rattle.verdict.specs.Block.{part}
use Rattle.verdict.proofs.Laws.Turns.{blank, values-none, values-more}
use Rattle.verdict.specs.Instances.{bytes}
use Rattle.verdict.proofs.block.fill.Goals as goal

pub loop-s-preserved : goal.loop-s-preserved
unfolding maps_of
loop-s-preserved c =
    let l = c.loop-s in
    let g = c.args in
    let ss = part g.from g.to g.r.statements in
    let whole : length g.r.statements ≡ 256 = search rules in
    let size : length ss ≡ g.to - g.from = length-take-le _ _ (simp length-drop (omega arith)) in
    let next =
    values-more (bytes g.m) (maps_of g.r) g.xs.now l.vs ss l.at l.s-index
    c.given.result blank (omega arith) (omega arith) c.given.ensures in
    (omega arith, next ∙ l.invariant.1)

pub returns : goal.returns
returns c =
    let l = c.loop-s in
    let g = c.args in
    let ss = part g.from g.to g.r.statements in
    let whole : length g.r.statements ≡ 256 = search rules in
    let size : length ss ≡ g.to - g.from = length-take-le _ _ (simp length-drop (omega arith)) in
    let end : g.n + (g.to - g.from) ≡ l.at = omega arith in
    let none = values-none (bytes g.m) (maps_of g.r) g.xs.now (take l.at l.vs) ss l.s-index (omega arith) in
    record { sized = l.auto.vs; filled = rw end (sym none ∙ l.invariant.1) }
