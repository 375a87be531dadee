-- A row: the products of a term and the terms of a polynomial, inserted one by one; and what a row leaves for the
-- next. Assumes nothing.
use mathlib.Core.Path.{◌≡◌, sym, ap, ap₂, ◌∙◌, subst}
use mathlib.Core.List.{List, [], ◌∷◌, ◌++◌}
use Prim.Native.Nat.{ℕ, suc, ◌+◌, ◌*◌, ◌-◌, ◌≤◌, ◌<◌}
use native.Mathlib.Omega.{arith}
use native.Mathlib.Numerals.{add-one}
use lib.ListN.{length, get_or, drop}
use Rattle.field.specs.Laws.{Ops, Ring, gf}
use Rattle.poly.specs.Poly.{term, Poly, into}
use Rattle.poly.specs.Canon.{Coefs, Sorted, Nonzero}
use Rattle.buffer.specs.Buffer.{term_at, read_terms}
use Rattle.buffer.specs.Insert.{Holds, InsertAsked, Inserted}
use Rattle.product.specs.Product.{term_times, row_of, RowAsked, RowAdded, SumAsked}
use Rattle.poly.proofs.Laws.Size.{length-scale}
use Rattle.poly.proofs.Laws.Sum.{into-sorted}
use Rattle.poly.proofs.Laws.Insert.{scale_append, into-last, into-nonzero}
use Rattle.buffer.proofs.Lent.Reads.{read_length, read_more}
use Rattle.buffer.proofs.Lent.Strides.{row_end}
use Rattle.buffer.proofs.Lent.Adding.{more_asks, more-holds, row, row-coef, row-powers}

-- ---- a row

-- a term has a byte
pub row-wide : {b : List ℕ} {r : ℕ} {f src : List ℕ} {k w : ℕ} → RowAsked b r f src k w → 0 < w
row-wide a = omega (arith, a.some, a.within)

-- a row has as many products as there are terms
pub row_of-length : (m : ℕ) (f src : List ℕ) (at k w : ℕ) → length (row_of m f (read_terms (w - 1) src at k)) ≡ k
row_of-length m f src at k w =
    length-scale (gf m) (get_or f 0 0) (drop 1 f) (read_terms (w - 1) src at k) ∙ read_length (w - 1) src at k

-- the products of f and the terms of src before j are inserted
pub record InRow (m : ℕ) (b₀ : List ℕ) (r : ℕ) (f src : List ℕ) (k w : ℕ) (b t : List ℕ) (n j : ℕ) : Type 0 where
  pub asked : RowAsked b₀ r f src k w
  pub most : j ≤ k
  pub spare : length t ≡ w
  pub holds : Holds b₀ b w ((r + k) * w) n
      (into (gf m) (row_of m f (read_terms (w - 1) src 0 j)) (read_terms (w - 1) b₀ 0 r))

module _ {m : ℕ} {b₀ : List ℕ} {r : ℕ} {f src : List ℕ} {k : ℕ} where
  module _ {w : ℕ} {b t : List ℕ} {n j : ℕ} (h : InRow m b₀ r f src k w b t n j) where
    -- at last every one is
    pub row_done : k ≤ j → RowAdded m b₀ b r f src k w n
    row_done l =
        let z : j ≡ k = omega (arith, h.most) in
        subst (λ (x : ℕ). Holds b₀ b w ((r + k) * w) n
        (into (gf m) (row_of m f (read_terms (w - 1) src 0 x)) (read_terms (w - 1) b₀ 0 r))) z h.holds

    module _ (l : j < k) where
      -- the products of the terms before j
      abbrev done : Poly
      done = row_of m f (read_terms (w - 1) src 0 j)

      -- the terms that stood there
      abbrev there : Poly
      there = read_terms (w - 1) b₀ 0 r

      -- the place of the next term
      abbrev at : ℕ
      at = j * w

      -- it stands in src
      pub fits : at + w ≤ length src
      fits = omega (arith, row_end j k w l, h.asked.source)

      -- the next term
      abbrev pub next : List ℕ
      next = row src at w (row-wide h.asked) fits

      -- there is room for its product
      inside : length done + length there < r + k
      inside = omega (arith, row_of-length m f src 0 j w, read_length (w - 1) b₀ 0 r)

      -- t' is the product
      module _ {t' : List ℕ} (made : t' ≡ term_times m f next) (size : length t' ≡ length t) where
        -- what the insertion asks
        pub row_asks : InsertAsked b n t'
        row_asks =
            more_asks (gf m) b₀ b w (r + k) n done there (row-wide h.asked) h.asked.room h.asked.sorted
            inside h.holds t' (size ∙ h.spare)

        -- its term
        product_made : term (get_or t' 0 0) (drop 1 t') ∷ [] ≡ row_of m f (term_at (w - 1) src at ∷ [])
        product_made =
            ap {B = Poly} (λ (x : List ℕ). term (get_or x 0 0) (drop 1 x) ∷ []) made
            ∙ ap₂ {C = Poly} (λ (x : ℕ) (y : List ℕ). row_of m f (term x y ∷ []))
            (row-coef src at w (row-wide h.asked) fits) (row-powers src at w (row-wide h.asked) fits)

        -- the products of the terms before the next but one
        done_more : done ++ (term (get_or t' 0 0) (drop 1 t') ∷ []) ≡ row_of m f (read_terms (w - 1) src 0 (j + 1))
        done_more =
            let s : suc (w - 1) ≡ w = omega (arith, row-wide h.asked) in
            let u : j * suc (w - 1) ≡ j * w = ap (λ (x : ℕ). j * x) s in
            let v : at ≡ 0 + j * suc (w - 1) = omega arith in
            ap (λ (x : Poly). done ++ x) product_made
            ∙ sym (scale_append (gf m) (get_or f 0 0) (drop 1 f) (read_terms (w - 1) src 0 j)
            (term_at (w - 1) src at ∷ []))
            ∙ ap (row_of m f) (ap {B = Poly} (λ (x : ℕ). read_terms (w - 1) src 0 j ++ (term_at (w - 1) src x ∷ [])) v
            ∙ sym (read_more (w - 1) src 0 j) ∙ ap (read_terms (w - 1) src 0) (sym (add-one j)))

        -- one product more is inserted
        pub row_more : Ring (gf m) → {b' : List ℕ} {n' : ℕ} → Inserted (gf m) b b' n t' n'
            → InRow m b₀ r f src k w b' t' n' (j + 1)
        row_more R {b'} {n'} i = record {
          asked = h.asked;
          most = omega arith;
          spare = size ∙ h.spare;
          holds = subst (Holds b₀ b' w ((r + k) * w) n')
              (sym (into-last (gf m) R done (get_or t' 0 0) (drop 1 t') there h.asked.sorted)
              ∙ ap (λ (p : Poly). into (gf m) p there) done_more)
              (more-holds (gf m) b₀ b w (r + k) n done there (row-wide h.asked) h.asked.room
              h.asked.sorted inside h.holds b' t' n' (size ∙ h.spare) i);
        }

-- ---- one change behind another

-- a buffer to which the terms p were added
module _ (F : Ops) (p q : Poly) {b₀ b : List ℕ} {w top n : ℕ} (h : Holds b₀ b w top n (into F p q)) where
  -- what the next row asks, where it has room
  pub again_asks : Sorted q → Coefs Nonzero q → (t f src : List ℕ) (k : ℕ) → length t ≡ w → 0 < length f
      → length f ≤ w → k * w ≤ length src → (n + k) * w ≤ length b → SumAsked b n f src k (length t)
  again_asks s z t f src k e some within source room = subst (SumAsked b n f src k) (sym e) (record {
    row = record {
      some = some;
      within = within;
      source = source;
      room = room;
      sorted = subst Sorted (sym h.terms) (into-sorted F p q s);
    };
    nonzero = subst (Coefs Nonzero) (sym h.terms) (into-nonzero F p q z);
  })

  -- a second change, that inserted the terms x among those that the first left
  pub holds_then : {b' : List ℕ} {top' r : ℕ} (x : Poly) → top' ≤ top
      → Holds b b' w top' r (into F x (read_terms (w - 1) b 0 n)) → Holds b₀ b' w top r (into F x (into F p q))
  holds_then x l g = record {
    size = g.size ∙ h.size;
    terms = g.terms ∙ ap (into F x) h.terms;
    high = λ j k. g.high j (omega arith) ∙ h.high j k;
  }
