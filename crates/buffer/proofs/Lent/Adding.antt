-- Terms inserted one by one, the last first: what the next insertion asks, and what it leaves. Assumes nothing.
use mathlib.Core.Path.{◌≡◌, refl, sym, ap, ap₂, ◌∙◌, subst}
use mathlib.Core.List.{List, ◌∷◌}
use Prim.Native.Nat.{ℕ, suc, ◌+◌, ◌*◌, ◌-◌, ◌≤◌, ◌<◌}
use native.Mathlib.Omega.{arith}
use native.Mathlib.Nat.{zero-mul, mul-le-mul_right}
use lib.ListN.{length, get_or, take, drop, length-drop}
use lib.Seq.{length-take-le, drop-cons}
use Rattle.field.specs.Laws.{Ops, gf}
use Rattle.poly.specs.Poly.{term, Poly, insert, into}
use Rattle.poly.specs.Canon.{Sorted}
use Rattle.buffer.specs.Buffer.{term_at, read_terms}
use Rattle.buffer.specs.Insert.{Holds, InsertAsked, Inserted, InsertedAny, AddAsked, AddedAny}
use Rattle.poly.proofs.Laws.Sum.{into-sorted, into-length}
use Rattle.buffer.proofs.Lent.Reads.{read_length}
use Rattle.buffer.proofs.Lent.Strides.{back-row}

-- ---- what a buffer holds

-- as many terms as were read
pub holds-count : {b b' : List ℕ} {w top r : ℕ} {p : Poly} → Holds b b' w top r p → r ≡ length p
holds-count {b} {b'} {w} {top} {r} {p} h = sym (read_length (w - 1) b' 0 r) ∙ ap length h.terms

-- a buffer that nothing was done to
pub holds-start : (b : List ℕ) (w top m : ℕ) → Holds b b w top m (read_terms (w - 1) b 0 m)
holds-start b w top m = record { size = refl; terms = refl; high = λ j h. refl }

-- one term more, where it has w bytes and there is room for it below top
pub holds-insert : (F : Ops) (b₀ b b' : List ℕ) (w top m r : ℕ) (t : List ℕ) (p : Poly) → length t ≡ w → suc m * w ≤ top
    → Holds b₀ b w top m p → Inserted F b b' m t r → Holds b₀ b' w top r (insert F (get_or t 0 0) (drop 1 t) p)
holds-insert F b₀ b b' w top m r t p l g h i = record {
  size = i.size ∙ h.size;
  terms =
      subst (λ (x : ℕ). read_terms (x - 1) b' 0 r ≡ insert F (get_or t 0 0) (drop 1 t) (read_terms (x - 1) b 0 m)) l
      i.terms
      ∙ ap (insert F (get_or t 0 0) (drop 1 t)) h.terms;
  high = λ j k. i.high j (subst (λ (x : ℕ). suc m * x ≤ j) (sym l) (omega arith)) ∙ h.high j k;
}

-- what `insert_term` asks for a term of w bytes
pub insert_asks : (b : List ℕ) (w m : ℕ) (t : List ℕ) → length t ≡ w → 0 < w → suc m * w ≤ length b
    → Sorted (read_terms (w - 1) b 0 m)
    → InsertAsked b m t
insert_asks b w m t l p f s = record {
  some = subst (λ (x : ℕ). 0 < x) (sym l) p;
  room = subst (λ (x : ℕ). suc m * x ≤ length b) (sym l) f;
  sorted = subst (λ (x : ℕ). Sorted (read_terms (x - 1) b 0 m)) (sym l) s;
}

-- with the terms q inserted among d, and room for another of at most k
module _ (F : Ops) (b₀ b : List ℕ) (w k n : ℕ) (q d : Poly) (pos : 0 < w) (fits : k * w ≤ length b₀) (s : Sorted d)
    (room : length q + length d < k) (h : Holds b₀ b w (k * w) n (into F q d)) where
  -- there is room for one term more
  below : suc n * w ≤ k * w
  below = mul-le-mul_right w (omega (arith, holds-count h, into-length F q d))

  -- what the next insertion asks
  pub more_asks : (t : List ℕ) → length t ≡ w → InsertAsked b n t
  more_asks t l =
      insert_asks b w n t l pos (omega (arith, below, h.size)) (subst Sorted (sym h.terms) (into-sorted F q d s))

  -- what the next insertion leaves
  pub more-holds : (b' t : List ℕ) (r : ℕ) → length t ≡ w → Inserted F b b' n t r
      → Holds b₀ b' w (k * w) r (into F (term (get_or t 0 0) (drop 1 t) ∷ q) d)
  more-holds b' t r l i = holds-insert F b₀ b b' w (k * w) n r t (into F q d) l below h i

-- ---- a part of a buffer that is one term

module _ (src : List ℕ) (at w : ℕ) (pos : 0 < w) (fits : at + w ≤ length src) where
  -- the bytes of the term at byte `at`
  abbrev pub row : List ℕ
  row = take (at + w - at) (drop at src)

  -- it has w bytes
  pub row-length : length row ≡ w
  row-length =
      let e : at + w - at ≡ w = omega arith in
      length-take-le (at + w - at) (drop at src) (omega (arith, length-drop at src)) ∙ e

  -- its coefficient, and its powers
  row_cons : row ≡ get_or src at 0 ∷ take (w - 1) (drop (suc at) src)
  row_cons =
      let e : at + w - at ≡ suc (w - 1) = omega arith in
      let l : at < length src = omega arith in
      ap₂ (λ (x : ℕ) (y : List ℕ). take x y) e (drop-cons src at 0 l)

  -- its coefficient
  pub row-coef : get_or row 0 0 ≡ get_or src at 0
  row-coef = ap (λ (x : List ℕ). get_or x 0 0) row_cons

  -- its powers
  pub row-powers : drop 1 row ≡ take (w - 1) (drop (suc at) src)
  row-powers = ap (drop 1) row_cons

-- ---- the terms j to k of src, one term more in front

-- the terms of src from the one before the j-th on: that one, and those from the j-th on
pub read_back : (src : List ℕ) (w j k at : ℕ) → 0 < w → 0 < j → j ≤ k → at + w ≡ j * w
    → read_terms (w - 1) src at (k - (j - 1)) ≡ term_at (w - 1) src at ∷ read_terms (w - 1) src (j * w) (k - j)
read_back src w j k at pos l g e =
    let s : k - (j - 1) ≡ suc (k - j) = omega arith in
    let u : at + suc (w - 1) ≡ j * w = omega arith in
    ap (read_terms (w - 1) src at) s ∙ ap (λ (x : ℕ). term_at (w - 1) src at ∷ read_terms (w - 1) src x (k - j)) u

-- ---- the terms of src inserted, the last first

-- the terms of src from j on are inserted
pub record InAdd (b₀ : List ℕ) (r : ℕ) (src : List ℕ) (k w : ℕ) (b : List ℕ) (n j : ℕ) : Type 0 where
  pub asked : AddAsked b₀ r src k w
  pub most : j ≤ k
  pub holds : (m : ℕ) → Holds b₀ b w ((r + k) * w) n
      (into (gf m) (read_terms (w - 1) src (j * w) (k - j)) (read_terms (w - 1) b₀ 0 r))

module _ {b₀ : List ℕ} {r : ℕ} {src : List ℕ} {k w : ℕ} where
  module _ {b : List ℕ} {n j : ℕ} (h : InAdd b₀ r src k w b n j) where
    -- at last every one is
    pub add_done : j ≡ 0 → AddedAny b₀ b r src w k n
    add_done z m =
        let y : j * w ≡ 0 = ap (λ (x : ℕ). x * w) z ∙ zero-mul w in
        let x : k - j ≡ k = omega arith in
        subst (λ (p : Poly). Holds b₀ b w ((r + k) * w) n (into (gf m) p (read_terms (w - 1) b₀ 0 r)))
        (ap₂ (λ (u v : ℕ). read_terms (w - 1) src u v) y x) (h.holds m)

    module _ (l : 0 < j) where
      -- where the term of src before the j-th starts
      abbrev at : ℕ
      at = (j - 1) * w

      -- where it ends
      ends : at + w ≡ j * w
      ends = back-row j w l

      -- it stands in src
      fits : at + w ≤ length src
      fits = omega (arith, ends, mul-le-mul_right w h.most, h.asked.source)

      -- its bytes
      abbrev last : List ℕ
      last = row src at w h.asked.some fits

      -- as code names them
      abbrev pub next : List ℕ
      next = take ((j - 1 + 1) * w - at) (drop at src)

      -- they are the same
      next-last : next ≡ last
      next-last =
          let d : j - 1 + 1 ≡ j = omega arith in
          ap (λ (x : ℕ). take (x - at) (drop at src)) (ap (λ (x : ℕ). x * w) d ∙ sym ends)

      -- they are w
      last-length : length last ≡ w
      last-length = row-length src at w h.asked.some fits

      -- the terms inserted so far
      abbrev done : Poly
      done = read_terms (w - 1) src (j * w) (k - j)

      -- the term, and those
      read-last : term (get_or last 0 0) (drop 1 last) ∷ done ≡ read_terms (w - 1) src at (k - (j - 1))
      read-last =
          ap₂ {C = Poly} (λ (x : ℕ) (e : List ℕ). term x e ∷ done)
          (row-coef src at w h.asked.some fits) (row-powers src at w h.asked.some fits)
          ∙ sym (read_back src w j k at h.asked.some l h.most ends)

      -- the terms that stood there
      abbrev there : Poly
      there = read_terms (w - 1) b₀ 0 r

      -- there is room for one more
      inside : length done + length there < r + k
      inside = omega (arith, read_length (w - 1) src (j * w) (k - j), read_length (w - 1) b₀ 0 r, h.most)

      -- what its insertion asks
      pub add_asks : InsertAsked b n next
      add_asks =
          subst (InsertAsked b n) (sym next-last)
          (more_asks (gf 0) b₀ b w (r + k) n done there h.asked.some h.asked.room h.asked.sorted inside
          (h.holds 0) last last-length)

      -- one term more is inserted
      pub add-more : {b' : List ℕ} {n' : ℕ} → InsertedAny b b' n next n' → InAdd b₀ r src k w b' n' (j - 1)
      add-more {b'} {n'} i = record {
        asked = h.asked;
        most = omega (arith, h.most);
        holds = λ m.
            subst (λ (p : Poly). Holds b₀ b' w ((r + k) * w) n' (into (gf m) p there)) read-last
            (more-holds (gf m) b₀ b w (r + k) n done there h.asked.some h.asked.room h.asked.sorted
            inside (h.holds m) b' last n' last-length
            (subst (λ (t : List ℕ). Inserted (gf m) b b' n t n') next-last (i m)));
      }
