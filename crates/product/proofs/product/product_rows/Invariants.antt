-- `product::product::product_rows` meets its contract. The invariant: `InProduct`, and the terms of p that are left.
-- Assumes nothing.
use mathlib.Core.Path.{◌≡◌}
use Prim.Native.Nat.{◌*◌, ◌-◌}
use lib.ListN.{length, take}
use Rattle.std.specs.Slice.Exact.{rchunks_exact_rest, rchunks_exact_size}
use Rattle.product.proofs.Lent.Factors.{InProduct}
use Rattle.product.proofs.product.product_rows.Given as goal

abbrev pub invariant-loop-f : goal.invariant-loop-f
invariant-loop-f l = record {
  sums : InProduct l.m l.initial.b l.p l.i l.q l.k l.initial.t l.b l.t l.n (l.i - length l.yielded);
  left : rchunks_exact_rest l.f-iterator ≡ take ((l.i - length l.yielded) * length l.initial.t) l.p;
  size : rchunks_exact_size l.f-iterator ≡ length l.initial.t;
}
