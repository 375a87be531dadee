use Rattle.tokens.proofs.Laws.Pieces.{piece-next, piece-none, piece-here}
use mathlib.Core.List.{[]}
use mathlib.Core.Path.{ap, ◌∙◌}
use lib.ListN.{get_or, drop}
use Prim.Native.Nat.{ℕ, ◌-◌, ◌+◌}
use Rattle.tokens.specs.Split.{pieces}
use native.Mathlib.Omega.{arith}
use Rattle.tokens.proofs.split.piece.Goals as goal

pub loop-init : goal.loop-init
loop-init c = (omega arith, ap (λ (n : ℕ). get_or (pieces c.args.sep c.args.s.now) n []) (omega arith))

pub returns-then-s-end : goal.returns-then-s-end
returns-then-s-end c =
    record {
      inside = omega arith;
      holds = piece-none _ _ c.loop.at c.find-end.result c.find-end.ensures (c.args.k - c.loop.counter)
          c.loop.invariant.1 (omega arith) (omega arith) (omega arith);
    }

pub loop-preserved : goal.loop-preserved
loop-preserved c = (
  omega arith,
  piece-next _ _ c.loop.at c.find-end.result c.find-end.ensures (c.args.k - c.loop.counter)
      c.loop.invariant.1 (omega arith) (omega arith)
      ∙ ap (λ (n : ℕ). get_or (pieces c.args.sep (drop (c.find-end.result + 1) c.args.s.now)) n []) (omega arith),
)

pub returns : goal.returns
returns c =
    piece-here _ _ c.loop.at c.find-end-2.result c.find-end-2.ensures (c.args.k - c.loop.counter) c.loop.invariant.1
    (omega arith) (omega arith)
