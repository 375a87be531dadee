-- `product::merge::merge_terms` meets its contract. The invariant: `InMerge`. Assumes nothing.
use Prim.Native.Nat.{◌+◌, ◌-◌}
use Rattle.product.proofs.Lent.Merged.{InMerge}
use Rattle.product.proofs.merge.merge_terms.Given as goal

abbrev pub invariant-loop-g : goal.invariant-loop-g
invariant-loop-g l = InMerge l.initial.b l.n l.at l.r l.w l.b l.g.terms l.g.sum l.g.piece

abbrev pub decreases-loop-g : goal.decreases-loop-g
decreases-loop-g l = l.at - l.g.sum + (l.at + l.r - l.g.piece)
