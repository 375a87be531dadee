-- The product of two polynomials: its rows added up in the part of a buffer that is lent for them, one row for each
-- term of the shorter factor. Assumes nothing.
use mathlib.Core.Path.{◌≡◌, refl, sym, ap, ap₂, ◌∙◌, subst}
use mathlib.Core.List.{List, [], ◌∷◌, ◌++◌}
use Prim.Native.Nat.{ℕ, suc, ◌+◌, ◌*◌, ◌-◌, ◌≤◌, ◌<◌}
use native.Mathlib.Omega.{arith}
use native.Mathlib.Nat.{le_refl, zero-mul, mul-le-mul_right, suc-mul}
use lib.ListN.{length, get_or, take, drop}
use lib.Seq.{length-take-le}
use Rattle.field.specs.Laws.{Ring, gf}
use Rattle.poly.specs.Poly.{term, Poly, into, mul_raw, mul_poly}
use Rattle.buffer.specs.Buffer.{read_terms}
use Rattle.buffer.specs.Insert.{Holds}
use Rattle.product.specs.Product.{row_of, SumAsked, SumAdded, ProductAsked, Product, ProductSummed}
use Rattle.poly.proofs.Laws.Size.{length-mul_raw, mul-size}
use Rattle.poly.proofs.Laws.Sum.{into_append, into-none, into-length}
use Rattle.poly.proofs.Laws.Insert.{mul_comm_poly}
use Rattle.buffer.proofs.Lent.Reads.{read_length}
use Rattle.buffer.proofs.Lent.Strides.{back-row}
use Rattle.buffer.proofs.Lent.Adding.{holds-count, holds-start, row, row-length, row-coef, row-powers, read_back}
use Rattle.product.proofs.Lent.Parts.{returned-size, returned-high, returned-read}
use Rattle.product.proofs.Lent.Products.{again_asks, holds_then}

-- ---- the rows

-- the products of the terms of p from j on and of all of q are added up
pub record InProduct (m : ℕ) (b₀ p : List ℕ) (i : ℕ) (q : List ℕ) (k : ℕ) (t₀ b t : List ℕ) (n j : ℕ) : Type 0 where
  pub asked : ProductAsked b₀ p i q k t₀
  pub most : j ≤ i
  pub spare : length t ≡ length t₀
  pub holds : Holds b₀ b (length t₀) (length b₀) n
      (into (gf m) (mul_raw (gf m) (read_terms (length t₀ - 1) p (j * length t₀) (i - j))
      (read_terms (length t₀ - 1) q 0 k)) [])

module _ {m : ℕ} {b₀ p : List ℕ} {i : ℕ} {q : List ℕ} {k : ℕ} {t₀ : List ℕ} where
  -- at first no row is added
  pub product_start : ProductAsked b₀ p i q k t₀ → InProduct m b₀ p i q k t₀ b₀ t₀ 0 i
  product_start a =
      let z : 0 ≡ i - i = omega arith in
      let v : ℕ = length t₀ in
      let all : Poly = read_terms (v - 1) q 0 k in
      record {
        asked = a;
        most = le_refl i;
        spare = refl;
        holds =
            subst (λ (x : ℕ). Holds b₀ b₀ v (length b₀) 0
            (into (gf m) (mul_raw (gf m) (read_terms (v - 1) p (i * v) x) all) [])) z
            (holds-start b₀ v (length b₀) 0);
      }

  module _ {b t : List ℕ} {n j : ℕ} (h : InProduct m b₀ p i q k t₀ b t n j) where
    -- the bytes of a term
    abbrev v : ℕ
    v = length t₀

    -- the terms of p from j on
    abbrev others : Poly
    others = read_terms (v - 1) p (j * v) (i - j)

    -- the terms of q
    abbrev all : Poly
    all = read_terms (v - 1) q 0 k

    -- at last every row is
    pub product_done : j ≡ 0 → ProductSummed m b₀ b p i q k v n
    product_done z =
        let y : j * v ≡ 0 = ap (λ (x : ℕ). x * v) z ∙ zero-mul v in
        let x : i - j ≡ i = omega arith in
        subst (Holds b₀ b v (length b₀) n)
        (into-none (gf m) (mul_raw (gf m) others all) ∙ ap (λ (u : Poly). mul_poly (gf m) u all)
        (ap₂ (λ (u v' : ℕ). read_terms (v - 1) p u v') y x)) h.holds

    module _ (l : 0 < j) where
      -- the place of the next term of p
      abbrev at : ℕ
      at = (j - 1) * v

      -- it ends where those behind it start
      ends : at + v ≡ j * v
      ends = back-row j v l

      -- it stands in p
      pub factor_fits : at + v ≤ length p
      factor_fits = omega (arith, ends, mul-le-mul_right v h.most, h.asked.left)

      -- what is added so far leaves room for a row
      room : (n + k) * v ≤ i * k * v
      room =
          mul-le-mul_right v
          (omega (
            arith,
            holds-count h.holds,
            into-length (gf m) (mul_raw (gf m) others all) [],
            length-mul_raw (gf m) others all,
            ap₂ (λ (x y : ℕ). x * y) (read_length (v - 1) p (j * v) (i - j)) (read_length (v - 1) q 0 k),
            suc-mul (i - j) k,
            mul-le-mul_right k (more j l h.most),
          ))
        where
          more : (j : ℕ) → 0 < j → j ≤ i → suc (i - j) ≤ i
          more j l h = omega arith

      -- f is the next term of p
      module _ {f : List ℕ} (e : f ≡ row p at v h.asked.some factor_fits) where
        -- its bytes
        factor_length : length f ≡ v
        factor_length = ap length e ∙ row-length p at v h.asked.some factor_fits

        -- the term, and those behind it
        factor_read : term (get_or f 0 0) (drop 1 f) ∷ others ≡ read_terms (v - 1) p at (i - (j - 1))
        factor_read =
            ap {B = Poly} (λ (x : List ℕ). term (get_or x 0 0) (drop 1 x) ∷ others) e
            ∙ ap₂ {C = Poly} (λ (x : ℕ) (y : List ℕ). term x y ∷ others)
            (row-coef p at v h.asked.some factor_fits) (row-powers p at v h.asked.some factor_fits)
            ∙ sym (read_back p v j i at h.asked.some l h.most ends)

        -- what the next row asks
        pub product_asks : SumAsked b n f q k (length t)
        product_asks =
            again_asks (gf m) (mul_raw (gf m) others all) [] h.holds tt tt t f q k h.spare
            (omega (arith, factor_length, h.asked.some)) (omega (arith, factor_length)) h.asked.right
            (omega (arith, room, h.asked.room, h.holds.size))

        -- one row more is added
        pub product_more : {b' t' : List ℕ} {n' : ℕ} → length t' ≡ length t → SumAdded m b b' n f q k (length t) n'
            → InProduct m b₀ p i q k t₀ b' t' n' (j - 1)
        product_more {b'} {t'} {n'} s g =
            let x : SumAdded m b b' n f q k v n' =
            subst (λ (z : ℕ). SumAdded m b b' n f q k z n') h.spare g in
            record {
              asked = h.asked;
              most = omega (arith, h.most);
              spare = s ∙ h.spare;
              holds = subst (Holds b₀ b' v (length b₀) n')
                  (sym (into_append (gf m) (row_of m f all) (mul_raw (gf m) others all) [])
                  ∙ ap (λ (z : Poly). into (gf m) (mul_raw (gf m) z all) []) factor_read)
                  (holds_then (gf m) (mul_raw (gf m) others all) [] h.holds (row_of m f all)
                  (omega (arith, h.holds.size)) x);
            }

-- ---- the shorter factor

-- the products of all of p and q in the front of the buffer, which was lent for them
pub product_lent : (m : ℕ) (b p : List ℕ) (i : ℕ) (q : List ℕ) (k w : ℕ) → 0 < w → i * k * w ≤ length b
    → (x : List ℕ) (n : ℕ) → ProductSummed m (take (i * k * w) b) x p i q k w n
    → Product m b (x ++ drop (i * k * w) b) p i q k w n
product_lent m b p i q k w pos f x n h =
    let z : 0 ≤ i * k * w = omega arith in
    let o : i * k * w - 0 ≡ i * k * w = omega arith in
    let s : length x ≡ i * k * w - 0 = h.size ∙ length-take-le (i * k * w) b f ∙ sym o in
    let e : suc (w - 1) ≡ w = omega arith in
    let g : n ≤ i * k =
    omega (
      arith,
      holds-count h,
      mul-size (gf m) (read_terms (w - 1) p 0 i) (read_terms (w - 1) q 0 k),
      ap₂ (λ (x y : ℕ). x * y) (read_length (w - 1) p 0 i) (read_length (w - 1) q 0 k),
    ) in
    let u : n * suc (w - 1) ≤ i * k * w - 0 =
    omega (arith, ap (λ (x : ℕ). n * x) e, mul-le-mul_right w g) in
    subst (λ (y : ℕ). Product m b (x ++ drop y b) p i q k w n) o (record {
      size = returned-size b 0 (i * k * w) z f x s;
      terms = returned-read b 0 (i * k * w) z f x s (w - 1) n u ∙ h.terms;
      high = returned-high b 0 (i * k * w) z f x s;
    })

-- the factors change places
pub product_turned : (m : ℕ) → Ring (gf m) → (b b' p : List ℕ) (i : ℕ) (q : List ℕ) (k w n : ℕ)
    → ProductSummed m b b' q k p i w n → ProductSummed m b b' p i q k w n
product_turned m R b b' p i q k w n h =
    subst (Holds b b' w (length b) n) (mul_comm_poly (gf m) R (read_terms (w - 1) q 0 k) (read_terms (w - 1) p 0 i)) h
