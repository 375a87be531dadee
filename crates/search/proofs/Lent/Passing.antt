-- One pass that puts a byte in for a variable: each term's step. Assumes nothing.
use mathlib.Core.Path.{◌≡◌, refl, sym, ap, ap₂, ◌∙◌, subst}
use mathlib.Core.Bool.{true, false}
use mathlib.Core.List.{List, [], ◌∷◌, ◌++◌, append_assoc}
use Prim.Native.Nat.{ℕ, zero, suc, ◌+◌, ◌*◌, ◌-◌, ◌≤◌, ◌<◌}
use native.Mathlib.Omega.{arith}
use native.Mathlib.Nat.{suc-mul, add-mul, mul-le-mul_right, zero-add}
use native.Mathlib.Numerals.{add-one}
use lib.ListN.{length, get_or, take, drop, set, length-set, length-drop}
use lib.Seq.{get_or-take, get_or-drop, length-take-le}
use Rattle.field.specs.Field.{power, times}
use Rattle.field.specs.Maps.{list_of}
use Rattle.field.specs.Xor.{◌⊕◌}
use Rattle.field.specs.Laws.{Ops, gf}
use Rattle.field.proofs.Laws.Sums.{get_d_list_of}
use Rattle.poly.specs.Poly.{Term, term, Poly, keep}
use Rattle.poly.specs.First.{put_slot_raw}
use Rattle.poly.specs.Canon.{Powers}
use Rattle.buffer.specs.Buffer.{term_at, read_terms}
use Rattle.buffer.specs.Move.{Written}
use Rattle.search.specs.Put.{Led, carry, same_next, StepAsked, Stepped}
use Rattle.buffer.proofs.Lent.Strides.{row_end}
use Rattle.buffer.proofs.Lent.Reads.{read_same, read_more, term-written}
use Rattle.search.proofs.Lent.Groups.{gathered, carry_on, carry_end}

-- ---- terms in a buffer have their powers

-- two facts of each term's powers together
pub both : (P Q : List ℕ → Type 0) (p : Poly) → Powers P p → Powers Q p → Powers (λ f. P f × Q f) p
both P Q [] h k = tt
both P Q (term c e ∷ p) h k = ((h.0, k.0), both P Q p h.1 k.1)

-- terms that are read have a power of variable i
read-long : (i n : ℕ) (b : List ℕ) (at k : ℕ) → i < n → at + k * suc n ≤ length b
    → Powers (λ f. i < length f) (read_terms n b at k)
read-long i n b at zero h l = tt
read-long i n b at (suc k) h l =
    let e : suc k * suc n ≡ k * suc n + suc n = suc-mul k (suc n) in (
      omega (arith, length-take-le n (drop (suc at) b) (omega (arith, length-drop (suc at) b))),
      read-long i n b (at + suc n) k h (omega arith),
    )

-- ---- the table of powers

-- the table holds the powers
table_at : (m a : ℕ) (table : List ℕ) (x : ℕ) → table ≡ list_of 256 (power (times m) a) → x < 256
    → get_or table x 0 ≡ power (times m) a x
table_at m a table x e h = ap (λ (l : List ℕ). get_or l x 0) e ∙ get_d_list_of 256 (power (times m) a) 0 x h

-- ---- the step

module _ (m : ℕ) (b : List ℕ) (k w i a j r c : ℕ) (h : StepAsked b k w i j r) where
  -- the field
  abbrev F : Ops
  F = gf m

  -- the number of variables
  abbrev n : ℕ
  n = w - 1

  -- the coefficient of term j
  abbrev d : ℕ
  d = get_or b (j * w) 0

  -- its powers
  abbrev e : List ℕ
  e = take n (drop (suc (j * w)) b)

  -- the terms behind it
  abbrev behind : Poly
  behind = read_terms n b (suc j * w) (k - suc j)

  -- it stands in the buffer
  inside : j * w + w ≤ length b
  inside = omega (arith, row_end j k w h.next, h.source)

  -- it has n powers
  length-e : length e ≡ n
  length-e = length-take-le n (drop (suc (j * w)) b) (omega (arith, inside, length-drop (suc (j * w)) b, h.inside))

  -- the terms from j on: this one, and those behind it
  split : read_terms n b (j * w) (k - j) ≡ term d e ∷ behind
  split =
      let u : k - j ≡ suc (k - suc j) = omega (arith, h.next) in
      let v : j * w + suc n ≡ suc j * w = omega (arith, suc-mul j w, h.inside) in
      ap (read_terms n b (j * w)) u ∙ ap (λ (x : ℕ). term d e ∷ read_terms n b x (k - suc j)) v

  -- their first i powers are zero
  led : Powers (Led i) (term d e ∷ behind)
  led = subst (Powers (Led i)) split h.led

  -- those behind have a power of variable i
  long : Powers (λ f. Led i f × (i < length f)) behind
  long =
      let u : k - suc j + suc j ≡ k = omega (arith, h.next) in
      let v : w ≡ suc n = omega (arith, h.inside) in
      both (Led i) (λ f. i < length f) behind led.1
      (read-long i n b (suc j * w) (k - suc j) (omega (arith, h.inside))
      (subst (λ (x : ℕ). suc j * w + (k - suc j) * x ≤ length b) v
      (omega (arith, h.source, add-mul (k - suc j) (suc j) w, ap (λ (x : ℕ). x * w) u))))

  -- the value that the code gathers
  value-here : get_or b (j * w + 1 + i) 0 ≡ get_or e i 0
  value-here =
      let u : j * w + 1 + i ≡ suc (j * w) + i = omega arith in
      ap (λ (x : ℕ). get_or b x 0) u ∙ sym (get_or-take n (drop (suc (j * w)) b) i 0 (omega (arith, h.inside))
      ∙ get_or-drop (suc (j * w)) b i 0)

  -- the sum that the code gathers, by the table of the powers of a
  pub sum-here : (table : List ℕ) (x : ℕ) → table ≡ list_of 256 (power (times m) a) → get_or b (j * w + 1 + i) 0 < 256
      → x ≡ times m d (get_or table (get_or b (j * w + 1 + i) 0) 0) → c ⊕ x ≡ gathered m i a c d e
  sum-here table x t l p =
      ap (λ (z : ℕ). c ⊕ z) (p ∙ ap (times m d)
      (table_at m a table (get_or b (j * w + 1 + i) 0) t l ∙ ap (power (times m) a) value-here))

  module _ (s : ℕ) (sum : s ≡ gathered m i a c d e) where
    -- the group goes on
    pub step_on : true ≡ same_next i (read_terms n b (j * w) (k - j)) → Stepped m b b k w i a j r c r s
    step_on q = record {
      size = refl;
      most = omega (arith, h.written);
      least = omega arith;
      value = ap {B = Poly} (λ (x : Poly). read_terms n b 0 r ++ x)
          (ap (λ (x : ℕ). carry F x (put_slot_raw F i a behind)) sum
          ∙ carry_on m i a c d e behind led.0 (omega (arith, length-e, h.inside)) long
          (sym (q ∙ ap (same_next i) split))
          ∙ sym (ap (λ (x : Poly). carry F c (put_slot_raw F i a x)) split));
      high = λ x l. refl;
      kept = λ _. refl;
    }

    -- what the terms behind give
    abbrev done : Poly
    done = carry F 0 (put_slot_raw F i a behind)

    -- the group ends, and its sum is kept
    ends : false ≡ same_next i (read_terms n b (j * w) (k - j))
        → keep s (set e i 0) done ≡ carry F c (put_slot_raw F i a (read_terms n b (j * w) (k - j)))
    ends q =
        ap (λ (x : ℕ). keep x (set e i 0) done) sum
        ∙ carry_end m i a c d e behind led.0 (omega (arith, length-e, h.inside)) long
        (sym (q ∙ ap (same_next i) split))
        ∙ sym (ap (λ (x : Poly). carry F c (put_slot_raw F i a x)) split)

    -- the group ends, and its sum is zero
    pub step-none : false ≡ same_next i (read_terms n b (j * w) (k - j)) → s ≡ 0 → Stepped m b b k w i a j r c r 0
    step-none q z = record {
      size = refl;
      most = omega (arith, h.written);
      least = omega arith;
      value = ap {B = Poly} (λ (x : Poly). read_terms n b 0 r ++ x)
          (sym (ap (λ (x : ℕ). keep x (set e i 0) done) z) ∙ ends q);
      high = λ x l. refl;
      kept = λ _. refl;
    }

    -- a sum other than zero is kept
    keep_some : (x : ℕ) (f : List ℕ) (p : Poly) → 0 < x → term x f ∷ p ≡ keep x f p
    keep_some zero f p l = absurd (omega arith)
    keep_some (suc x) f p l = refl

    -- the group stands behind the terms written so far
    behind-written : (b' : List ℕ) → Written b b' (r * w) (s ∷ set e i 0)
        → read_terms n b' 0 (r + 1) ≡ read_terms n b 0 r ++ (term s (set e i 0) ∷ [])
    behind-written b' g =
        let t : length (set e i 0) ≡ n = length-set e i 0 ∙ length-e in
        let u : r * w ≤ j * w = mul-le-mul_right w h.written in
        let f : j * w + w ≤ length b = inside in
        let o : suc i < w = h.inside in
        let v : suc n ≡ w = omega arith in
        let y : 0 + r * suc n ≡ r * w = ap (λ (x : ℕ). 0 + r * x) v ∙ zero-add (r * w) in
        ap (read_terms n b' 0) (add-one r) ∙ read_more n b' 0 r
        ∙ ap₂ {C = Poly} (λ (x : Poly) (y : ℕ). x ++ (term_at n b' y ∷ []))
        (read_same n b' b 0 r g.size (λ x l p. g.low x (omega arith))) y
        ∙ ap {B = Poly} (λ (x : Term). read_terms n b 0 r ++ (x ∷ []))
        (term-written n b' (r * w) s (set e i 0) t (omega (arith, g.size)) (λ x l. g.here x (omega arith)))

    -- the group ends, and is written
    pub step_write : (b' : List ℕ) → false ≡ same_next i (read_terms n b (j * w) (k - j)) → 0 < s
        → Written b b' (r * w) (s ∷ set e i 0)
        → Stepped m b b' k w i a j r c (r + 1) 0
    step_write b' q z g =
        let t : length (set e i 0) ≡ n = length-set e i 0 ∙ length-e in
        let u : r * w ≤ j * w = mul-le-mul_right w h.written in
        let v : suc j * w ≡ j * w + w = suc-mul j w in
        let o : suc i < w = h.inside in
        record {
          size = g.size;
          most = omega (arith, h.written);
          least = omega arith;
          value =
              ap₂ {C = Poly} (λ (x y : Poly). x ++ carry F 0 (put_slot_raw F i a y)) (behind-written b' g)
              (read_same n b' b (suc j * w) (k - suc j) g.size (λ x l p. g.high x (omega arith)))
              ∙ append_assoc (read_terms n b 0 r) (term s (set e i 0) ∷ []) done
              ∙ ap {B = Poly} (λ (x : Poly). read_terms n b 0 r ++ x) (keep_some s (set e i 0) done z ∙ ends q);
          high = λ x l. g.high x (omega arith);
          kept = λ l. absurd (omega arith);
        }
