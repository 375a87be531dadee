use Prim.Native.Nat.{◌*◌, ◌≤◌}
use native.Mathlib.Omega.{arith}
use lib.ListN.{length}
use Rattle.product.proofs.Lent.Sums.{sum_room, sum_asks, sum_more}
use Rattle.product.proofs.product.add_row.Goals as goal
use Rattle.product.proofs.product.add_row.Goals.{In-loop-rest}

-- the terms that stand in the buffer
room : (c : In-loop-rest) →
    let a = c.args in
    c.loop-rest.n * length a.t.now ≤ length c.loop-rest.b
room c = sum_room c.loop-rest.invariant

pub overflow_mul-n : goal.overflow_mul-n
overflow_mul-n c = omega (arith, room (goal.at.overflow_mul-n c).In-loop-rest)

pub overflow_sub-b : goal.overflow_sub-b
overflow_sub-b c = omega (arith, room (goal.at.overflow_sub-b c).In-loop-rest)

pub add_piece-n-requires : goal.add_piece-n-requires
add_piece-n-requires c = sum_asks c.loop-rest.invariant c.piece_size-c.ensures.1

pub loop-rest-preserved : goal.loop-rest-preserved
loop-rest-preserved c =
    sum_more c.loop-rest.invariant c.piece_size-c.ensures.1 c.add_piece-n.auto.t
    c.add_piece-n.ensures
