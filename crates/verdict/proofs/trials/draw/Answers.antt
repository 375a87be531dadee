use Rattle.std.proofs.Common.{◌≡◌, length, ◌≤◌, arith, rules, length-append, length-drop, ◌∙◌}
use Rattle.std.proofs.lemmas.List.{take-append-le}
use Rattle.verdict.proofs.Laws.Making.{draw_more, number_more, draw_all, number_all}
use Rattle.verdict.proofs.trials.draw.Goals as goal

pub loop-byte-preserved : goal.loop-byte-preserved
loop-byte-preserved c =
    let l = c.loop-byte in
    let v = c.args.v in
    let p = c.stepped-n.ensures in (
      search rules,
      draw_more v l.byte-index l.n _ _ l.byte-items _ (omega arith) (omega arith) p c.top_byte.ensures l.invariant.1,
      number_more v l.byte-index l.n _ _ (omega arith) p l.invariant.2,
    )

pub returns : goal.returns
returns c =
    let l = c.loop-byte in
    let v = c.args.v in
    let all : l.byte-index ≡ v = omega arith in
    let front : v ≤ length l.byte-items = omega arith in
    record {
      sized = simp (length-append, length-drop) (omega arith);
      bytes = take-append-le v l.byte-items _ front ∙ draw_all v l.byte-index l.n l.byte-items _ all l.invariant.1;
      next = number_all v l.byte-index l.n _ all l.invariant.2;
    }
