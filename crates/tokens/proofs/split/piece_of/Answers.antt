use Rattle.tokens.proofs.Laws.Pieces.{piece_inside, piece-found, piece-passed, piece-missing}
use Rattle.tokens.specs.Ascii.{same_bytes}
use mathlib.Core.Path.{sym, ◌∙◌}
use native.Mathlib.Omega.{arith}
use Rattle.tokens.proofs.split.piece_of.Goals as goal

pub loop-sep-init : goal.loop-sep-init
loop-sep-init c = (omega arith, omega arith, omega arith)

pub slice_bounds-same-end : goal.slice_bounds-same-end
slice_bounds-same-end c =
    omega (arith, piece_inside _ _ c.loop-sep.at c.find-end.result c.find-end.ensures c.loop-sep.invariant.0)

pub returns-then-same : goal.returns-then-same
returns-then-same c =
    let find = c.find-end in
    piece-found _ _ c.loop-sep.at find.result find.ensures (same_bytes _) c.loop-sep.k c.loop-sep.invariant.2
    (sym c.same.ensures ∙ c.if-same.true)

pub returns-then-s-end : goal.returns-then-s-end
returns-then-s-end c =
    let find = c.find-end in
    piece-missing _ _ c.loop-sep.at find.result find.ensures (same_bytes _) c.loop-sep.k c.loop-sep.invariant.2
    (omega arith) c.loop-sep.invariant.0 (sym c.same.ensures ∙ c.if-same.false)

pub loop-sep-preserved : goal.loop-sep-preserved
loop-sep-preserved c =
    let find = c.find-end in (
      omega arith,
      omega arith,
      piece-passed _ _ c.loop-sep.at find.result find.ensures (same_bytes _) c.loop-sep.k c.loop-sep.invariant.2
          (omega arith) (sym c.same.ensures ∙ c.if-same.false),
    )
