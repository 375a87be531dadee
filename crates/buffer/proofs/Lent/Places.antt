-- Finding the place of a term t among m sorted terms of a buffer b, by halving: what each comparison
-- tells. Assumes nothing.
use mathlib.Core.Path.{◌≡◌, refl, sym, ap, ap₂, ◌∙◌, subst}
use mathlib.Core.Logic.{◌≢◌}
use mathlib.Core.List.{List, [], ◌∷◌, ◌++◌}
use Prim.Native.Nat.{ℕ, suc, ◌+◌, ◌*◌, ◌-◌, ◌/◌, ◌≤◌, ◌<◌}
use Prim.Native.Nat.{Ordering as Order}
use Rattle.std.proofs.Common.{true, false}
use Rattle.std.specs.declared.cmp.Ordering.{Ordering}
use Rattle.std.specs.declared.cmp.Ordering.TheVariants.{Less, Equal, Greater}
use Rattle.std.specs.Ordering.{is_eq, is_gt}
use native.Mathlib.Omega.{arith}
use native.Mathlib.Numerals.{add-one}
use lib.ListN.{length, get_or, take, drop, length-drop}
use lib.Seq.{take_all}
use Rattle.poly.specs.Poly.{term, Poly, order}
use Rattle.poly.specs.Canon.{Powers, Above, Sorted}
use Rattle.buffer.specs.Buffer.{term_at, read_terms, answer}
use Rattle.poly.proofs.Laws.Order.{order_lt, order_gt, order_trans}
use Rattle.poly.proofs.Laws.Normal.{powers_append, above_trans}
use Rattle.buffer.proofs.Lent.Reads.{read_more, read-parts}
use Rattle.buffer.proofs.Lent.Place.{AllBefore}
use Rattle.buffer.proofs.Lent.Strides.{halfway, half-row}
use Rattle.buffer.specs.Insert.{PlaceAsked}

-- ---- the answer of a comparison

-- the order that an answer stands for
abbrev order_of : Ordering → Order
order_of Less = Order.lt
order_of Equal = Order.eq
order_of Greater = Order.gt

-- it is the one that gave it
order_of-answer : (o : Order) → order_of (answer o) ≡ o
order_of-answer Order.lt = refl
order_of-answer Order.eq = refl
order_of-answer Order.gt = refl

-- one answer, one order
pub answer_unique : (o p : Order) → answer o ≡ answer p → o ≡ p
answer_unique o p h = sym (order_of-answer o) ∙ ap order_of h ∙ order_of-answer p

-- an answer that is `Equal`
pub answer-equal : (o : Order) → is_eq (answer o) ≡ true → o ≡ Order.eq
answer-equal Order.lt h = cc
answer-equal Order.eq h = refl
answer-equal Order.gt h = cc

-- an answer that is not, where the right does not come first
pub answer-less : (o : Order) → is_eq (answer o) ≡ false → o ≢ Order.gt → o ≡ Order.lt
answer-less Order.lt h k = refl
answer-less Order.eq h k = cc
answer-less Order.gt h k = absurd (k refl)

-- an answer that is `Greater`
pub answer-greater : (o : Order) → is_gt (answer o) ≡ true → o ≡ Order.gt
answer-greater Order.lt h = cc
answer-greater Order.eq h = cc
answer-greater Order.gt h = refl

module _ (b t : List ℕ) (at : ℕ) (pos : 0 < length t) (fits : at + length t ≤ length b) where
  -- t's powers, as the part that is compared
  abbrev pub mine : List ℕ
  mine = take (length t - 1) (drop 1 t)

  -- the powers of the term at byte `at`, as the part that is compared
  abbrev pub theirs : List ℕ
  theirs = take (at + length t - (at + 1)) (drop (at + 1) b)

  -- to compare the parts is to compare the powers
  pub same-order : order mine theirs ≡ order (drop 1 t) (take (length t - 1) (drop (suc at) b))
  same-order =
      let e : at + length t - (at + 1) ≡ length t - 1 = omega arith in
      ap₂ order (take_all (length t - 1) (drop 1 t) (omega (arith, length-drop 1 t)))
      (ap₂ (λ (x y : ℕ). take x (drop y b)) e (add-one at))

-- ---- sorted terms before one that comes before powers e

-- powers that come before sorted terms come before each
above-all : (g : List ℕ) (p : Poly) → Above g p → Sorted p → Powers (λ f. order g f ≡ Order.lt) p
above-all g [] h s = tt
above-all g (term d f ∷ p) h s = (h, above-all g p (above_trans g f p h s.0) s.1)

-- what holds of all powers holds of those of a term in the middle
middle_of : (P : List ℕ → Type 0) (p : Poly) (d : ℕ) (f : List ℕ) (q : Poly) → Powers P (p ++ (term d f ∷ q)) → P f
middle_of P [] d f q h = h.0
middle_of P (term c g ∷ p) d f q h = middle_of P p d f q h.1

-- where a term comes before powers e, so do all before it
sorted-behind : (e : List ℕ) (p : Poly) (d : ℕ) (f : List ℕ) (q : Poly) → order e f ≡ Order.gt
    → Sorted (p ++ (term d f ∷ q)) → AllBefore e p
sorted-behind e [] d f q o s = tt
sorted-behind e (term c g ∷ p) d f q o s =
    let l : order g f ≡ Order.lt = middle_of (λ y. order g y ≡ Order.lt) p d f q
    (above-all g (p ++ (term d f ∷ q)) s.0 s.1) in
    (order_lt g e (order_trans g f e l (order_gt e f o)), sorted-behind e p d f q o s.1)

-- ---- halving

-- the terms below low come before t, and the term at high does not
pub record Between (b : List ℕ) (m : ℕ) (t : List ℕ) (low high : ℕ) : Type 0 where
  pub asked : PlaceAsked b m t
  pub least : low ≤ high
  pub most : high ≤ m
  pub behind : AllBefore (drop 1 t) (read_terms (length t - 1) b 0 low)
  pub before : high < m → order (drop 1 t) (take (length t - 1) (drop (suc (high * length t)) b)) ≢ Order.gt

module _ (b : List ℕ) (m : ℕ) (t : List ℕ) (low high : ℕ) (g : low < high) (h : Between b m t low high) where
  -- the number of the middle term
  abbrev pub middle : ℕ
  middle = low + (high - low) / 2

  -- it stands in the buffer
  pub middle-fits : middle * length t + length t ≤ length b
  middle-fits = half-row low high m (length t) (length b) g h.most h.asked.source

  -- the powers of t against those of the middle term
  abbrev pub compared : Order
  compared = order (mine b t (middle * length t) h.asked.some middle-fits)
      (theirs b t (middle * length t) h.asked.some middle-fits)

  -- the middle term comes before t, and so all below it
  pub between_up : compared ≡ Order.gt → Between b m t (middle + 1) high
  between_up c =
      let i : ℕ = middle in
      let u : i < high = halfway low high g in
      let n : ℕ = length t - 1 in
      let w : suc n ≡ length t = omega (arith, h.asked.some) in
      let a : 0 + i * suc n ≡ i * length t = ap (λ (x : ℕ). 0 + i * x) w ∙ omega arith in
      let o : order (drop 1 t) (take n (drop (suc (0 + i * suc n)) b)) ≡ Order.gt =
      ap (λ (x : ℕ). order (drop 1 t) (take n (drop (suc x) b))) a
      ∙ sym (same-order b t (i * length t) h.asked.some middle-fits) ∙ c in
      let r : m ≡ i + suc (m - suc i) = omega (arith, h.most) in
      let d : AllBefore (drop 1 t) (read_terms n b 0 i) =
      sorted-behind (drop 1 t) (read_terms n b 0 i) (get_or b (0 + i * suc n) 0) (take n (drop (suc (0 + i * suc n)) b))
      (read_terms n b (0 + i * suc n + suc n) (m - suc i)) o
      (subst Sorted (ap (read_terms n b 0) r ∙ read-parts n b 0 i (suc (m - suc i))) h.asked.sorted) in
      record {
        asked = h.asked;
        least = omega arith;
        most = h.most;
        behind = subst (AllBefore (drop 1 t)) (sym (ap (read_terms n b 0) (add-one i) ∙ read_more n b 0 i))
            (powers_append (λ f. order (drop 1 t) f ≡ Order.gt) (read_terms n b 0 i)
            (term_at n b (0 + i * suc n) ∷ []) d (o, tt));
        before = h.before;
      }
