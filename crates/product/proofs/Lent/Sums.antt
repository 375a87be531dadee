-- A row added to a sum in pieces, the last first. Assumes nothing.
use mathlib.Core.Path.{◌≡◌, sym, ap, ap₂, ◌∙◌, subst}
use mathlib.Core.List.{List, ◌++◌}
use Prim.Native.Nat.{ℕ, suc, ◌+◌, ◌*◌, ◌-◌, ◌≤◌}
use native.Mathlib.Omega.{arith}
use native.Mathlib.Nat.{mul-le-mul_right, add-mul}
use lib.ListN.{length, get_or, drop}
use Rattle.field.specs.Laws.{gf}
use Rattle.poly.specs.Poly.{Poly, into}
use Rattle.poly.proofs.Laws.Sum.{into_append, into-length}
use Rattle.poly.proofs.Laws.Insert.{scale_append}
use Rattle.buffer.specs.Buffer.{read_terms}
use Rattle.buffer.specs.Insert.{Holds}
use Rattle.buffer.proofs.Lent.Reads.{read_length, read-parts}
use Rattle.buffer.proofs.Lent.Adding.{holds-count}
use Rattle.product.specs.Product.{row_of, SumAsked, SumAdded}
use Rattle.product.proofs.Lent.Parts.{part, part_length, part-read}
use Rattle.product.proofs.Lent.Products.{row-wide, row_of-length, again_asks, holds_then}

-- the products of f and the terms of src from j on are added
pub record InSum (m : ℕ) (b₀ : List ℕ) (r : ℕ) (f src : List ℕ) (k w : ℕ) (b t : List ℕ) (n j : ℕ) : Type 0 where
  pub asked : SumAsked b₀ r f src k w
  pub most : j ≤ k
  pub spare : length t ≡ w
  pub holds : Holds b₀ b w (length b₀) n
      (into (gf m) (row_of m f (read_terms (w - 1) src (j * w) (k - j))) (read_terms (w - 1) b₀ 0 r))

module _ {m : ℕ} {b₀ : List ℕ} {r : ℕ} {f src : List ℕ} {k : ℕ} where
  module _ {w : ℕ} {b t : List ℕ} {n j : ℕ} (h : InSum m b₀ r f src k w b t n j) where
    -- the terms that stood there
    abbrev there : Poly
    there = read_terms (w - 1) b₀ 0 r

    -- the terms of src from i on
    abbrev rest : ℕ → Poly
    rest i = read_terms (w - 1) src (i * w) (k - i)

    -- no more terms than stood there and were added
    count : n ≤ r + (k - j)
    count =
        omega (
          arith,
          holds-count h.holds,
          into-length (gf m) (row_of m f (rest j)) there,
          row_of-length m f src (j * w) (k - j) w,
          read_length (w - 1) b₀ 0 r,
        )

    -- they stand in the buffer
    pub sum_room : n * w ≤ length b
    sum_room =
        let g : n ≤ r + k = omega (arith, count, h.most) in
        omega (arith, mul-le-mul_right w g, h.asked.row.room, h.holds.size)

    -- the next piece has d terms
    module _ {d : ℕ} (l : d ≤ j) where
      -- it starts here
      abbrev at : ℕ
      at = (j - d) * w

      -- and ends here
      abbrev to : ℕ
      to = at + d * w

      -- it ends where the last one starts, within src
      pub sum-places : (to ≡ j * w) × (to ≤ length src)
      sum-places =
          let e : j - d + d ≡ j = omega arith in
          let u : to ≡ j * w = sym (add-mul (j - d) d w) ∙ ap (λ (x : ℕ). x * w) e in
          (u, omega (arith, mul-le-mul_right w h.most, h.asked.row.source))

      -- its places are in order
      lies : at ≤ to
      lies = omega arith

      -- its bytes
      abbrev piece : List ℕ
      piece = part src at to

      -- what it asks
      pub sum_asks : SumAsked b n f piece d (length t)
      sum_asks =
          let a = h.asked.row in
          let g : n + d ≤ r + k = omega (arith, count, h.most) in
          again_asks (gf m) (row_of m f (rest j)) there h.holds a.sorted h.asked.nonzero t f piece d h.spare
          a.some a.within (omega (arith, part_length src at to lies sum-places.1))
          (omega (arith, mul-le-mul_right w g, a.room, h.holds.size))

      -- its terms and those added before
      piece-rest : read_terms (w - 1) piece 0 d ++ rest j ≡ rest (j - d)
      piece-rest =
          let s : suc (w - 1) ≡ w = omega (arith, row-wide h.asked.row) in
          let u : d * suc (w - 1) ≡ d * w = ap (λ (x : ℕ). d * x) s in
          let v : at + d * suc (w - 1) ≡ j * w = omega (arith, sum-places.0) in
          let z : d + (k - j) ≡ k - (j - d) = omega (arith, h.most) in
          ap₂ (λ (x y : Poly). x ++ y) (part-read src at to lies sum-places.1 (w - 1) d (omega arith))
          (ap (λ (x : ℕ). read_terms (w - 1) src x (k - j)) (sym v))
          ∙ sym (read-parts (w - 1) src at d (k - j)) ∙ ap (read_terms (w - 1) src at) z

      -- one piece more is added
      pub sum_more : {b' t' : List ℕ} {n' : ℕ} → length t' ≡ length t → SumAdded m b b' n f piece d (length t) n'
          → InSum m b₀ r f src k w b' t' n' (j - d)
      sum_more {b'} {t'} {n'} s g =
          let x : SumAdded m b b' n f piece d w n' =
          subst (λ (z : ℕ). SumAdded m b b' n f piece d z n') h.spare g in
          let p : Poly = read_terms (w - 1) piece 0 d in
          record {
            asked = h.asked;
            most = omega (arith, h.most);
            spare = s ∙ h.spare;
            holds = subst (Holds b₀ b' w (length b₀) n')
                (sym (into_append (gf m) (row_of m f p) (row_of m f (rest j)) there)
                ∙ ap (λ (p : Poly). into (gf m) p there)
                (sym (scale_append (gf m) (get_or f 0 0) (drop 1 f) p (rest j)) ∙ ap (row_of m f) piece-rest))
                (holds_then (gf m) (row_of m f (rest j)) there h.holds (row_of m f p)
                (omega (arith, h.holds.size)) x);
          }
