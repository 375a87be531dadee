-- The end of a buffer lent to the polynomial functions, and the operands that they read.
-- Assumes nothing.
use mathlib.Core.Path.{◌≡◌, refl, sym, ap, ap₂, ◌∙◌, subst}
use Prim.Native.Nat.{ℕ, zero, suc, ◌+◌, ◌*◌, ◌-◌, ◌≤◌, ◌<◌}
use native.Mathlib.Omega.{arith}
use native.Mathlib.Nat.{add-mul, zero-add, add-zero, zero-mul}
use mathlib.Core.List.{List, [], ◌∷◌, ◌++◌, append-nil}
use lib.ListN.{length, get_or, take, drop, length-append, length-drop, get_or-append, replicate, length-replicate}
use lib.Seq.{get_or-drop, get_or-take, drop-drop, drop_at, length-take-le, drop-length, take_all}
use Rattle.field.specs.Laws.{Ops, gf}
use Rattle.poly.specs.Poly.{term, Poly, into, normal, add_poly, mul_poly, map_poly}
use Rattle.buffer.specs.Buffer.{read_terms}
use Rattle.buffer.specs.Insert.{Holds, AddAsked}
use Rattle.product.specs.Product.{ProductAsked}
use Rattle.product.specs.Apply.{ApplyAsked, Applied}
use Rattle.poly.specs.Size.{one_if, nonzeros}
use Rattle.field.specs.Field.{Modulus}
use Rattle.buffer.proofs.Lent.Strides.{row_count}
use Rattle.values.proofs.Laws.Laying.{read_part_lem}
use Rattle.buffer.proofs.Lent.Reads.{read-parts, read_same, read-raw}
use Rattle.poly.proofs.Laws.Sum.{into-none}
use Rattle.values.specs.declared.source.Source.{Source}
use Rattle.values.specs.Shelf.{terms_at, Laid}
use Rattle.values.specs.Source.{source_of, source_size}
use Rattle.values.specs.Load.{most_term_bytes, LayAsked, LoadAsked}
use Rattle.values.specs.Form.{PairAsked, Paired}

-- ---- the end of a buffer

-- reading behind the first `at` bytes
pub read-drop : (n : ℕ) (b : List ℕ) (at o m : ℕ) → read_terms n (drop at b) o m ≡ read_terms n b (at + o) m
read-drop n b at o zero = refl
read-drop n b at o (suc m) =
    let e : at + suc o ≡ suc (at + o) = omega arith in
    let f : at + (o + suc n) ≡ at + o + suc n = omega arith in
    ap₂ {C = Poly} ◌∷◌
    (ap₂ term (get_or-drop at b o 0) (ap (take n) (drop-drop (suc o) at b ∙ ap (λ (x : ℕ). drop x b) e)))
    (read-drop n b at (o + suc n) m ∙ ap (λ (x : ℕ). read_terms n b x m) f)

-- the buffer b whose bytes from `at` on came back as x
abbrev pub back : List ℕ → ℕ → List ℕ → List ℕ
back b at x = take at b ++ (x ++ drop (length b - at) (drop at b))

module _ (b x : List ℕ) (at : ℕ) (h : at ≤ length b) where
  back_end : back b at x ≡ take at b ++ x
  back_end =
      let e : at + (length b - at) ≡ length b = omega arith in
      ap (λ (y : List ℕ). take at b ++ (x ++ y)) (drop-drop (length b - at) at b ∙ ap (λ (z : ℕ). drop z b) e
      ∙ drop-length b)
      ∙ ap (λ (y : List ℕ). take at b ++ y) (append-nil x)

  front_length : length (take at b) ≡ at
  front_length = length-take-le at b h

  back-drop : drop at (back b at x) ≡ x
  back-drop = ap (drop at) back_end ∙ drop_at (take at b) x at front_length

  back_low : (i : ℕ) → i < at → get_or (back b at x) i 0 ≡ get_or b i 0
  back_low i l =
      ap (λ (y : List ℕ). get_or y i 0) back_end ∙ get_or-append (take at b) x 0 i (omega (arith, front_length))
      ∙ get_or-take at b i 0 l

  back-size : length x ≡ length b - at → length (back b at x) ≡ length b
  back-size l = ap length back_end ∙ length-append (take at b) x ∙ omega (arith, front_length)

-- the part itself
pub end_length : (b : List ℕ) (at : ℕ) → length (take (length b - at) (drop at b)) ≡ length b - at
end_length b at = length-take-le (length b - at) (drop at b) (omega (arith, length-drop at b))

-- what stands at the front of the lent end is laid at its place
pub laid_end : (w top k r : ℕ) (b x : List ℕ) (p : Poly) → LayAsked b top k w → {y : ℕ}
    → Holds (take (length b - top * w) (drop (top * w) b)) x w y r p → Laid w b (back b (top * w) x) top r p
laid_end w top k r b x p a h =
    let f : top * w ≤ length b = omega (arith, add-mul top k w, a.room) in
    record {
      size = back-size b x (top * w) f (h.size ∙ end_length b (top * w));
      low = back_low b x (top * w) f;
      terms =
          ap (λ (y : ℕ). read_terms (w - 1) (back b (top * w) x) y r) (sym (add-zero (top * w)))
          ∙ sym (read-drop (w - 1) (back b (top * w) x) (top * w) 0 r)
          ∙ ap (λ (y : List ℕ). read_terms (w - 1) y 0 r) (back-drop b x (top * w) f)
          ∙ h.terms;
    }

-- the lent end has room for k terms
pub end_room : (w top k : ℕ) (b : List ℕ) → LayAsked b top k w
    → k * w ≤ length (take (length b - top * w) (drop (top * w) b))
end_room w top k b a = omega (arith, end_length b (top * w), add-mul top k w, a.room)

-- ---- two operands

module _ {w : ℕ} {left : List ℕ} {a b : Source} {right : List ℕ} where
  -- both loads
  pub paired : (r₁ r₂ : List ℕ) → PairAsked left a b right w
      → Laid w right r₁ 0 (source_size a) (source_of w left a)
      → Laid w r₁ r₂ (source_size a) (source_size b) (source_of w left b)
      → Paired w left a b right r₂
  paired r₁ r₂ q h g =
      let e : suc (w - 1) ≡ w = omega (arith, q.first.asked.some) in
      let n = ap (λ (x : ℕ). source_size a * x) e in
      record {
        size = g.size ∙ h.size;
        first = read_same (w - 1) r₂ r₁ (0 * w) (source_size a) g.size
            (λ i l u. g.low i (omega (arith, n, zero-mul w))) ∙ h.terms;
        second = g.terms;
      }

  -- both together, as the terms of their sum
  pub pair-terms : (r : List ℕ) → 0 < w → Paired w left a b right r
      → read_terms (w - 1) r 0 (source_size a + source_size b) ≡ source_of w left a ++ source_of w left b
  pair-terms r pos q =
      let e : suc (w - 1) ≡ w = omega arith in
      let z : 0 + source_size a * suc (w - 1) ≡ source_size a * w = ap (λ (x : ℕ). 0 + source_size a * x) e
      ∙ zero-add (source_size a * w) in
      read-parts (w - 1) r 0 (source_size a) (source_size b)
      ∙ ap₂ (λ (x y : Poly). x ++ y)
      (ap (λ (x : ℕ). read_terms (w - 1) r x (source_size a)) (sym (zero-mul w)) ∙ q.first)
      (ap (λ (x : ℕ). read_terms (w - 1) r x (source_size b)) z ∙ q.second)

-- ---- the sum

-- no terms, and then the operands': the sum of both
pub sum-holds : (F : Ops) (b b' : List ℕ) (w y r : ℕ) (p q s : Poly) → s ≡ p ++ q → Holds b b' w y r (into F s [])
    → Holds b b' w y r (add_poly F p q)
sum-holds F b b' w y r p q s e h = subst (Holds b b' w y r) (into-none F s ∙ ap (normal F) e) h

-- ---- the ways out of `form_copy`

module _ {w : ℕ} {left right : List ℕ} (r₁ : List ℕ) (a : Source) {top k : ℕ} (e : k ≡ source_size a) where
  -- the copy has the room that it asks
  pub copy-asked : LoadAsked left a right 0 w → LayAsked left top (source_size a) w → length r₁ ≡ length right
      → ((0 + k) * w ≤ length r₁) × LayAsked left top k w
  copy-asked q l s = (
    subst (λ (x : ℕ). (0 + x) * w ≤ length r₁) (sym e) (omega (arith, q.asked.room)),
    subst
        (λ (x : ℕ). LayAsked left top x w) (sym e) l,
  )

-- ---- the ways out of `form_sum`

module _ {w : ℕ} {left right : List ℕ} {a b : Source} {i k : ℕ} (e : i ≡ source_size a) (f : k ≡ source_size b)
    (q : PairAsked left a b right w) where
  -- the operands' sizes are small numbers
  pub pair_small : i + k ≤ length right
  pair_small = omega (arith, row_count (source_size a + source_size b) w q.first.asked.some, q.second.asked.room)

  pair-rows : i * w + k * w ≤ length right
  pair-rows = rw (e, f) (omega (arith, add-mul (source_size a) (source_size b) w, q.second.asked.room))

  -- the first operand's bytes are within the buffer
  pub first-row : i * w ≤ length right
  first-row = omega (arith, pair-rows)

  module _ (r₁ : List ℕ) {top : ℕ} (l : LayAsked left top (source_size a + source_size b) w) where
    -- the sum has the room that it asks
    pub sum-asked : length r₁ ≡ length right
        → AddAsked (take (length left - top * w) (drop (top * w) left)) 0 r₁ (i + k) w
    sum-asked s = record {
      some = q.first.asked.some;
      room = rw (e, f) (ap_le (zero-add (source_size a + source_size b))
          (end_room w top (source_size a + source_size b) left l));
      source = omega (arith, pair-rows, add-mul i k w);
      sorted = tt;
    }
      where
        ap_le : {x y : ℕ} {z : ℕ} → x ≡ y → y * w ≤ z → x * w ≤ z
        ap_le {x} {y} {z} g h = subst (λ (v : ℕ). v * w ≤ z) (sym g) h

    -- what is inserted among no terms is the sum
    pub sum-formed : (m y r : ℕ) (x : List ℕ) → Paired w left a b right r₁
        → Holds (take (length left - top * w) (drop (top * w) left)) x w y r
        (into (gf m) (read_terms (w - 1) r₁ 0 (i + k)) [])
        → Laid w left (back left (top * w) x) top r (add_poly (gf m) (source_of w left a) (source_of w left b))
    sum-formed m y r x p h =
        let t : read_terms (w - 1) r₁ 0 (i + k) ≡ source_of w left a ++ source_of w left b
        = ap₂ (λ (u v : ℕ). read_terms (w - 1) r₁ 0 (u + v)) e f ∙ pair-terms r₁ q.first.asked.some p in
        laid_end w top (source_size a + source_size b) r left x _ l
        (sum-holds (gf m) (take (length left - top * w) (drop (top * w) left)) x w y r (source_of w left a)
        (source_of w left b) (read_terms (w - 1) r₁ 0 (i + k)) t h)

  -- ---- the ways out of `form_product`; t is a lent row of w bytes

  module _ (r₁ t : List ℕ) {top : ℕ} (l : LayAsked left top (source_size a * source_size b) w)
      (s : length r₁ ≡ length right) (n : length t ≡ w) where
    abbrev first_part : List ℕ
    first_part = take (i * w - 0) r₁

    abbrev second_part : List ℕ
    second_part = take (length r₁ - i * w) (drop (i * w) r₁)

    -- the product has the room that it asks
    pub product_asked : ProductAsked (take (length left - top * w) (drop (top * w) left)) first_part i second_part k t
    product_asked =
        let z : i * w - 0 ≡ i * w = omega arith in
        let u : length first_part ≡ i * w = length-take-le (i * w - 0) r₁ (omega (arith, first-row)) ∙ z in
        let v : length second_part ≡ length r₁ - i * w = end_length r₁ (i * w) in
        record {
          some = omega (arith, q.first.asked.some);
          left = rw n (omega (arith, u));
          right = rw n (omega (arith, v, pair-rows));
          room = rw (n, e, f) (end_room w top (source_size a * source_size b) left l);
        }

    first-terms : Paired w left a b right r₁ → read_terms (w - 1) first_part 0 i ≡ source_of w left a
    first-terms p =
        let z : i * w - 0 ≡ i * w = omega arith in
        ap (λ (x : ℕ). read_terms (w - 1) (take x r₁) 0 i) z
        ∙ read_part_lem w r₁ 0 i q.first.asked.some (omega (arith, first-row))
        ∙ ap (λ (x : ℕ). read_terms (w - 1) r₁ x i) (sym (zero-mul w))
        ∙ ap (terms_at w r₁ 0) e ∙ p.first

    second-terms : Paired w left a b right r₁ → read_terms (w - 1) second_part 0 k ≡ source_of w left b
    second-terms p =
        let v : length (drop (i * w) r₁) ≡ length r₁ - i * w = length-drop (i * w) r₁ in
        ap (λ (x : List ℕ). read_terms (w - 1) x 0 k) (take_all (length r₁ - i * w) (drop (i * w) r₁) (omega arith))
        ∙ read-drop (w - 1) r₁ (i * w) 0 k
        ∙ ap (λ (x : ℕ). read_terms (w - 1) r₁ x k) (add-zero (i * w))
        ∙ ap₂ (λ (x y : ℕ). terms_at w r₁ x y) e f ∙ p.second

    -- what is formed is the product
    pub product_formed : (m y r : ℕ) (x : List ℕ) → Paired w left a b right r₁
        → Holds (take (length left - top * w) (drop (top * w) left)) x (length t) y r
        (mul_poly (gf m) (read_terms (length t - 1) first_part 0 i) (read_terms (length t - 1) second_part 0 k))
        → Laid w left (back left (top * w) x) top r (mul_poly (gf m) (source_of w left a) (source_of w left b))
    product_formed m y r x p h =
        let g : Holds (take (length left - top * w) (drop (top * w) left)) x w y r
        (mul_poly (gf m) (read_terms (w - 1) first_part 0 i) (read_terms (w - 1) second_part 0 k))
        = subst (λ (z : ℕ). Holds (take (length left - top * w) (drop (top * w) left)) x z y r
        (mul_poly (gf m) (read_terms (z - 1) first_part 0 i) (read_terms (z - 1) second_part 0 k))) n h in
        laid_end w top (source_size a * source_size b) r left x _ l
        (subst (Holds (take (length left - top * w) (drop (top * w) left)) x w y r)
        (ap₂ (mul_poly (gf m)) (first-terms p) (second-terms p)) g)

-- ---- the ways out of `form_image`

module _ {w : ℕ} {left : List ℕ} {right : List ℕ} {r₁ : List ℕ} (t : List ℕ) {a : Source} (m c : ℕ)
    (ls : List ℕ) {top k : ℕ} (e : k ≡ source_size a)
    (q : LoadAsked left a right 0 w) (l : LayAsked left top (one_if c + nonzeros ls * source_size a) w)
    (h : Laid w right r₁ 0 (source_size a) (source_of w left a)) (n : length t ≡ w) where
  image-row : k * w ≤ length r₁
  image-row = rw e (omega (arith, q.asked.room, h.size, zero-add (source_size a)))

  image-terms : read_terms (w - 1) r₁ 0 k ≡ source_of w left a
  image-terms = ap (λ (x : ℕ). read_terms (w - 1) r₁ x k) (sym (zero-mul w)) ∙ ap (terms_at w r₁ 0) e ∙ h.terms

  -- the image has the room that it asks
  pub image-asked : Modulus m → ((i : ℕ) → get_or r₁ i 0 < 256)
      → ApplyAsked m c ls (take (length left - top * w) (drop (top * w) left)) r₁ k t
  image-asked o bytes =
      let u : suc (w - 1) ≡ w = omega (arith, q.asked.some) in
      let v = ap (λ (x : ℕ). k * x) u in
      record {
        modulus = o;
        some = omega (arith, q.asked.some);
        source = rw n image-row;
        terms = rw n (read-raw (w - 1) r₁ 0 k bytes (omega (arith, v, image-row)));
        room = rw (n, e) (end_room w top (one_if c + nonzeros ls * source_size a) left l);
      }

  -- what is formed is the image
  pub image-formed : (r : ℕ) (x r₂ : List ℕ) → Applied m c ls (take (length left - top * w) (drop (top * w) left)) x r₁
      r₂ k (length t) r
      → Laid w left (back left (top * w) x) top r (map_poly (gf m) (w - 1) c ls (source_of w left a))
  image-formed r x r₂ g =
      let b = take (length left - top * w) (drop (top * w) left) in
      let o : Applied m c ls b x r₁ r₂ k w r = subst (λ (z : ℕ). Applied m c ls b x r₁ r₂ k z r) n g in
      laid_end w top (one_if c + nonzeros ls * source_size a) r left x _ l
      (subst (Holds b x w _ r) (ap (map_poly (gf m) (w - 1) c ls) image-terms) o.held)

-- the row that is lent for a term
pub row-lent : (w : ℕ) → w ≤ most_term_bytes → length {A = ℕ} (take (w - 0) (replicate most_term_bytes 0)) ≡ w
row-lent w h =
    let z : w - 0 ≡ w = omega arith in
    length-take-le (w - 0) (replicate {A = ℕ} most_term_bytes 0) (omega (arith, length-replicate {A = ℕ} most_term_bytes 0))
    ∙ z
