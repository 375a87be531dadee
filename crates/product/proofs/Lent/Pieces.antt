-- A piece of a row: its products inserted among the terms of a sum, or made a row of their own and merged with them.
-- Assumes nothing.
use mathlib.Core.Path.{◌≡◌, sym, ap, ap₂, ◌∙◌, subst}
use mathlib.Core.List.{List, []}
use Prim.Native.Nat.{ℕ, suc, ◌+◌, ◌*◌, ◌-◌, ◌≤◌}
use native.Mathlib.Omega.{arith}
use native.Mathlib.Nat.{le-add_right, mul-le-mul_right, add-mul}
use lib.ListN.{length}
use Rattle.field.specs.Laws.{Ring, gf}
use Rattle.poly.specs.Poly.{Poly, into}
use Rattle.poly.specs.Canon.{Coefs, Sorted, Nonzero}
use Rattle.poly.proofs.Laws.Sum.{into-sorted, into-none, into-length}
use Rattle.poly.proofs.Laws.Insert.{into-nonzero, into-normal}
use Rattle.buffer.specs.Buffer.{read_terms}
use Rattle.buffer.proofs.Lent.Reads.{read_same}
use Rattle.buffer.proofs.Lent.Strides.{row_count}
use Rattle.buffer.proofs.Lent.Adding.{holds-count}
use Rattle.product.specs.Product.{row_of, RowAdded, SumAsked, SumAdded}
use Rattle.product.specs.Merge.{MergeAsked, MergedAny}
use Rattle.product.proofs.Lent.Parts.{part, part_length, returned, returned-size, returned-low, returned-read}
use Rattle.product.proofs.Lent.Merged.{beyond}
use Rattle.product.proofs.Lent.Products.{row-wide, row_of-length}

module _ {b : List ℕ} {n : ℕ} {f src : List ℕ} {k w : ℕ} (h : SumAsked b n f src k w) where
  -- the part that is lent for the piece: from here
  abbrev from : ℕ
  from = (n + k) * w

  -- and to here
  abbrev to : ℕ
  to = from + k * w

  -- the terms that stood there
  abbrev there : Poly
  there = read_terms (w - 1) b 0 n

  -- the numbers of terms fit
  pub piece-count : (n + k ≤ length b) × (n * w ≤ from) × (from ≤ length b)
  piece-count = (
    omega (arith, row_count (n + k) w (row-wide h.row), h.row.room),
    mul-le-mul_right w (le-add_right n k),
    h.row.room,
  )

  module _ (fits : to ≤ length b) where
    -- the lent part lies in order
    lies : from ≤ to
    lies = omega arith

    -- the lent part
    abbrev lent : List ℕ
    lent = part b from to

    module _ (m : ℕ) {x : List ℕ} {r : ℕ} (g : RowAdded m lent x 0 f src k w r) where
      -- the products
      abbrev products : Poly
      products = row_of m f (read_terms (w - 1) src 0 k)

      -- the buffer when the part came back
      abbrev now : List ℕ
      now = returned b from to x

      -- the part that came back has its length
      came : length x ≡ to - from
      came = g.size ∙ part_length b from to lies fits

      -- no more terms than products
      piece-most : r ≤ k
      piece-most = omega (arith, holds-count g, into-length (gf m) products [], row_of-length m f src 0 k w)

      -- a term's bytes
      width : suc (w - 1) ≡ w
      width = omega (arith, row-wide h.row)

      -- the terms of the piece
      piece-terms : read_terms (w - 1) now from r ≡ into (gf m) products []
      piece-terms =
          let l : r * w ≤ k * w = mul-le-mul_right w piece-most in
          let u : r * suc (w - 1) ≡ r * w = ap (λ (y : ℕ). r * y) width in
          returned-read b from to lies fits x came (w - 1) r (omega arith) ∙ g.terms

      -- the terms of the sum, which stay
      sum-terms : read_terms (w - 1) now 0 n ≡ there
      sum-terms =
          let u : n * suc (w - 1) ≡ n * w = ap (λ (y : ℕ). n * y) width in
          read_same (w - 1) now b 0 n (returned-size b from to lies fits x came)
          (λ i p q. returned-low b from to lies fits x came i (omega (arith, piece-count.1)))

      -- what the merge asks
      pub piece_merges : MergeAsked now n (n + k) r w
      piece_merges = record {
        some = row-wide h.row;
        room = omega (arith, piece-most);
        fits =
            omega (
              arith,
              add-mul (n + k) r w,
              mul-le-mul_right w piece-most,
              returned-size b from to lies fits x came,
            );
        ascends = subst Sorted (sym sum-terms) h.row.sorted;
        sorted = subst Sorted (sym piece-terms) (into-sorted (gf m) products [] tt);
        nonzero = subst (Coefs Nonzero) (sym piece-terms) (into-nonzero (gf m) products [] tt);
      }

      -- the piece is merged
      pub piece-merged : Ring (gf m) → (b' : List ℕ) (r' : ℕ) → MergedAny now b' n (n + k) r w r'
          → SumAdded m b b' n f src k w r'
      piece-merged R b' r' d =
          let s : length b' ≡ length b = (d m).size ∙ returned-size b from to lies fits x came in
          record {
            size = s;
            terms =
                (d m).terms ∙ ap₂ (into (gf m)) (piece-terms ∙ into-none (gf m) products) sum-terms
                ∙ into-normal (gf m) R products there h.row.sorted h.nonzero;
            high = beyond b b' s;
          }
