-- `product::product::product_row` meets its contract. The invariant: `InRow`, and the terms of src that are left.
-- Assumes nothing.
use mathlib.Core.Path.{◌≡◌}
use Prim.Native.Nat.{◌*◌}
use lib.ListN.{length, take, drop}
use Rattle.std.specs.Slice.Iter.{chunks_exact_rest, chunks_exact_size}
use Rattle.product.proofs.Lent.Products.{InRow}
use Rattle.product.proofs.product.product_row.Given as goal

abbrev pub invariant-loop-q : goal.invariant-loop-q
invariant-loop-q l = record {
  row : InRow l.m l.initial.b l.r l.f l.src l.k (length l.initial.t) l.b l.t l.n (length l.yielded);
  left : chunks_exact_rest l.q-iterator
      ≡ drop (length l.yielded * length l.initial.t) (take (l.k * length l.initial.t) l.src);
  size : chunks_exact_size l.q-iterator ≡ length l.initial.t;
}
