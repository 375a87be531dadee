-- `product::product::add_piece` meets its contract: the piece is inserted, or merged. Assumes nothing.
use native.Mathlib.Omega.{arith}
use Rattle.field.proofs.Laws.Ring.{ring}
use Rattle.product.proofs.Lent.Pieces.{piece_merges, piece-merged}
use Rattle.product.proofs.product.add_piece.Goals as goal

pub merge_terms-requires : goal.merge_terms-requires
merge_terms-requires c =
    piece_merges c.requires (omega arith) c.args.m c.product_row-r.ensures

pub returns : goal.returns
returns c =
    let g = c.merge_terms in
    piece-merged c.requires (omega arith) c.args.m c.product_row-r.ensures (ring c.args.m (omega arith))
    g.new.b g.result g.ensures
