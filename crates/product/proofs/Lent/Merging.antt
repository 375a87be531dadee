-- The steps of a merge: which term comes first, what is written, and that the whole stays what it was. Assumes nothing.
use mathlib.Core.Path.{◌≡◌, refl, sym, ap, ap₂, ◌∙◌, subst}
use mathlib.Core.Logic.{◌≢◌}
use mathlib.Core.List.{List, [], ◌∷◌, ◌++◌, append_assoc, append-nil}
use Prim.Native.Nat.{ℕ, zero, suc, ◌+◌, ◌*◌, ◌-◌, ◌≤◌, ◌<◌, Ordering}
use native.Mathlib.Omega.{arith}
use native.Mathlib.Nat.{zero-lt-suc, mul-le-mul_right}
use native.Mathlib.Numerals.{add-one}
use lib.ListN.{length, get_or, take, drop, set, length-set, length-append}
use lib.Seq.{get_or-set_same, get_or-set_other, drop-set-lt}
use Rattle.std.specs.declared.cmp.Ordering.{Ordering as Answer}
use Rattle.field.specs.Laws.{Ops}
use Rattle.poly.specs.Poly.{term, Poly, order, keep, into}
use Rattle.poly.specs.Canon.{Coefs, Above, Sorted, Nonzero}
use Rattle.buffer.specs.Buffer.{term_at, read_terms, answer}
use Rattle.buffer.specs.Move.{MovedDown}
use Rattle.poly.proofs.Laws.Insert.{keep_some}
use Rattle.poly.proofs.Laws.Merge.{merge_less, merge_more, merge_same}
use Rattle.poly.proofs.Laws.Order.{gt≢lt, eq≢lt, order_same}
use Rattle.buffer.proofs.Lent.Reads.{read_length, read_same, read-shift, read_more}
use Rattle.buffer.proofs.Lent.Places.{answer_unique}
use Rattle.buffer.proofs.Lent.Strides.{next_row}
use Rattle.product.specs.Merge.{Merging, against, facing, Grown, Stepped}

-- ---- which comes first

-- a term of the sum is left
pub facing-met : (b : List ℕ) (w i end j : ℕ) → 0 < w → i ≤ end → i ≢ end
    → answer (order (take (j * w + w - (j * w + 1)) (drop (j * w + 1) b))
    (take (i * w + w - (i * w + 1)) (drop (i * w + 1) b)))
    ≡ answer (facing b w i end j)
facing-met b w i end j p l h =
    let z : suc (end - i - 1) ≡ end - i = omega arith in
    let u : j * w + w - (j * w + 1) ≡ w - 1 = omega arith in
    let v : i * w + w - (i * w + 1) ≡ w - 1 = omega arith in
    ap answer (ap₂ order (ap₂ (λ (x y : ℕ). take x (drop y b)) u (add-one (j * w)))
    (ap₂ (λ (x y : ℕ). take x (drop y b)) v (add-one (i * w)))
    ∙ ap (λ (x : ℕ). against (take (w - 1) (drop (suc (j * w)) b)) (read_terms (w - 1) b (i * w) x)) z)

-- terms that powers do not all come before are some
some_left : (e : List ℕ) (n : ℕ) (b : List ℕ) (at x : ℕ) → against e (read_terms n b at x) ≢ Ordering.lt → 0 < x
some_left e n b at zero h = absurd (h refl)
some_left e n b at (suc x) h = zero-lt-suc x

-- where the piece's term does not come first a term of the sum is left
pub facing-left : (b : List ℕ) (w i end j : ℕ) (o : Ordering) → o ≢ Ordering.lt → facing b w i end j ≡ o → i < end
facing-left b w i end j o n q =
    let s = some_left (take (w - 1) (drop (suc (j * w)) b)) (w - 1) b (i * w) (end - i) (λ e. n (sym q ∙ e)) in
    omega arith

-- what the comparison answered tells which comes first
pub told-order : {a : Answer} {o p : Ordering} → a ≡ answer o → a ≡ answer p → o ≡ p
told-order {a} {o} {p} e s = answer_unique o p (sym e ∙ s)

-- powers that come first come before the list
against-above : (e : List ℕ) (p : Poly) → against e p ≡ Ordering.lt → Above e p
against-above e [] h = tt
against-above e (term d f ∷ p) h = h

-- ---- what is written

-- a term moved down behind the first k
pub taken : (b b' : List ℕ) (i k w : ℕ) → 0 < w → k ≤ i → (i + 1) * w ≤ length b
    → MovedDown b b' (i * w) (i * w + w) (i * w - k * w)
    → Grown b b' w k (k + 1) (k + 1) (term_at (w - 1) b (i * w) ∷ [])
taken b b' i k w p l f d =
    let n : ℕ = w - 1 in
    let e : suc n ≡ w = omega arith in
    let g : k * w ≤ i * w = mul-le-mul_right w l in
    let ek : k * suc n ≡ k * w = ap (λ (x : ℕ). k * x) e in
    let eo : 1 * suc n ≡ w = omega arith in
    let si : (i + 1) * w ≡ i * w + w = next_row i w in
    let sk : (k + 1) * w ≡ k * w + w = next_row k w in
    let by : k * w + (i * w - k * w) ≡ i * w = omega arith in
    let at : 0 + k * suc n ≡ k * w = omega arith in
    record {
      size = d.size;
      terms =
          ap (read_terms n b' 0) (add-one k) ∙ read_more n b' 0 k
          ∙ ap₂ (λ (x y : Poly). x ++ y)
          (read_same n b' b 0 k d.size (λ x u v. d.low x (omega arith)))
          (ap {B = Poly} (λ (x : ℕ). term_at n b' x ∷ []) at
          ∙ sym (read-shift n b' b (k * w) (i * w - k * w) 1 (omega (arith, d.size)) (omega arith)
          (λ x u v. sym (d.moved x (omega arith) (omega arith))))
          ∙ ap {B = Poly} (λ (x : ℕ). term_at n b x ∷ []) by);
      high = λ x u. d.high x (omega arith);
    }

-- two terms joined to zero: nothing is written
pub joined-none : (b : List ℕ) (i k w c : ℕ) (e : List ℕ) → c ≡ 0 → Grown b b w k k (i + 1) (keep c e [])
joined-none b i k w c e z = record {
  size = refl;
  terms = sym (ap (λ (x : ℕ). read_terms (w - 1) b 0 k ++ keep x e []) z ∙ append-nil (read_terms (w - 1) b 0 k));
  high = λ x u. refl;
}

-- two terms joined: the coefficient is stored, and the term moved down
pub joined-some : (b b' : List ℕ) (i k w c : ℕ) → 0 < w → k < i → (i + 1) * w ≤ length b → 0 < c
    → Grown (set b (i * w) c) b' w k (k + 1) (k + 1) (term_at (w - 1) (set b (i * w) c) (i * w) ∷ [])
    → Grown b b' w k (k + 1) (i + 1) (keep c (take (w - 1) (drop (suc (i * w)) b)) [])
joined-some b b' i k w c p l f z g =
    let n : ℕ = w - 1 in
    let e : suc n ≡ w = omega arith in
    let ek : k * suc n ≡ k * w = ap (λ (x : ℕ). k * x) e in
    let u : k * w ≤ i * w = mul-le-mul_right w (omega arith) in
    let v : (k + 1) * w ≤ i * w = mul-le-mul_right w (omega arith) in
    let si : (i + 1) * w ≡ i * w + w = next_row i w in
    let y : List ℕ = take n (drop (suc (i * w)) b) in
    record {
      size = g.size ∙ length-set b (i * w) c;
      terms =
          g.terms
          ∙ ap₂ (λ (x y : Poly). x ++ y)
          (read_same n (set b (i * w) c) b 0 k (length-set b (i * w) c)
          (λ x a t. get_or-set_other b (i * w) x c 0 (omega arith)))
          (ap {B = Poly} (λ x. x ∷ [])
          (ap₂ term (get_or-set_same b (i * w) c 0 (omega arith))
          (ap (take n) (drop-set-lt (suc (i * w)) b (i * w) c (omega arith))))
          ∙ sym (keep_some c y [] z));
      high = λ x t. g.high x (omega arith) ∙ get_or-set_other b (i * w) x c 0 (omega arith);
    }

-- ---- a step

-- the terms j to last: the first, and the others
next : (b : List ℕ) (w j last : ℕ) → 0 < w → j < last
    → read_terms (w - 1) b (j * w) (last - j)
    ≡ term_at (w - 1) b (j * w) ∷ read_terms (w - 1) b ((j + 1) * w) (last - (j + 1))
next b w j last p l =
    let s : last - j ≡ suc (last - (j + 1)) = omega arith in
    let sj : (j + 1) * w ≡ j * w + w = next_row j w in
    let u : j * w + suc (w - 1) ≡ (j + 1) * w = omega arith in
    ap (read_terms (w - 1) b (j * w)) s
    ∙ ap (λ (x : ℕ). term_at (w - 1) b (j * w) ∷ read_terms (w - 1) b x (last - (j + 1))) u

-- what is left after a step: the terms i to end of the sum and j to last of the piece
record Rest (b : List ℕ) (w i end j last : ℕ) : Type 0 where
  ascends : Sorted (read_terms (w - 1) b (i * w) (end - i))
  sorted : Sorted (read_terms (w - 1) b (j * w) (last - j))
  nonzero : Coefs Nonzero (read_terms (w - 1) b (j * w) (last - j))

module _ (F : Ops) {b : List ℕ} {w k i end j last : ℕ} (h : Merging b w k i end j last) where
  -- the terms of the piece from x on
  abbrev pieces : ℕ → Poly
  pieces x = read_terms (w - 1) b (x * w) (last - x)

  -- the terms of the sum from x on
  abbrev sums : ℕ → Poly
  sums x = read_terms (w - 1) b (x * w) (end - x)

  -- p is written, and what is left of both lists gives the rest
  stepped : {b' : List ℕ} (n i' j' from : ℕ) (p : Poly) → Grown b b' w k n from p → from ≤ i' → i' ≤ end
      → j ≤ j' → j' ≤ last → n + (last - j') ≤ i' → end - i' + (last - j') < end - i + (last - j)
      → Rest b w i' end j' last → into F (pieces j) (sums i) ≡ p ++ into F (pieces j') (sums i')
      → Stepped F b b' w end last k i j n i' j'
  stepped {b'} n i' j' from p g lf li lj ll room less r e =
      let u : from * w ≤ i' * w = mul-le-mul_right w lf in
      let v : i' * w ≤ j' * w = mul-le-mul_right w (omega (arith, h.piece)) in
      let s : read_terms (w - 1) b' (i' * w) (end - i') ≡ sums i' =
      read_same (w - 1) b' b (i' * w) (end - i') g.size (λ x a t. g.high x (omega arith)) in
      let q : read_terms (w - 1) b' (j' * w) (last - j') ≡ pieces j' =
      read_same (w - 1) b' b (j' * w) (last - j') g.size (λ x a t. g.high x (omega arith)) in
      record {
        size = g.size;
        left = record {
          some = h.some;
          sum = li;
          piece = omega (arith, h.piece);
          most = ll;
          room = room;
          fits = omega (arith, h.fits, g.size);
          ascends = subst Sorted (sym s) r.ascends;
          sorted = subst Sorted (sym q) r.sorted;
          nonzero = subst (Coefs Nonzero) (sym q) r.nonzero;
        };
        less = less;
        same =
            ap₂ (λ (x y : Poly). x ++ y) g.terms (ap₂ (into F) q s)
            ∙ append_assoc (read_terms (w - 1) b 0 k) p (into F (pieces j') (sums i'))
            ∙ ap (λ (x : Poly). read_terms (w - 1) b 0 k ++ x) (sym e);
      }

  module _ (l : j < last) where
    -- the piece: its first term, and the others
    pub piece-next : pieces j ≡ term_at (w - 1) b (j * w) ∷ pieces (j + 1)
    piece-next = next b w j last h.some l

    -- the piece's first term and the others are sorted
    piece-sorted : Sorted (term_at (w - 1) b (j * w) ∷ pieces (j + 1))
    piece-sorted = subst Sorted piece-next h.sorted

    -- no coefficient of them is zero
    piece-nonzero : Coefs Nonzero (term_at (w - 1) b (j * w) ∷ pieces (j + 1))
    piece-nonzero = subst (Coefs Nonzero) piece-next h.nonzero

    -- the piece's term comes first
    pub step-piece : {b' : List ℕ} → facing b w i end j ≡ Ordering.lt
        → Grown b b' w k (k + 1) (k + 1) (term_at (w - 1) b (j * w) ∷ [])
        → Stepped F b b' w end last k i j (k + 1) i (j + 1)
    step-piece o g =
        stepped (k + 1) i (j + 1) (k + 1) (term_at (w - 1) b (j * w) ∷ []) g (omega (arith, h.room)) h.sum
        (omega arith) (omega arith) (omega (arith, h.room)) (omega arith)
        (record { ascends = h.ascends; sorted = piece-sorted.1; nonzero = piece-nonzero.1 })
        (ap (λ (x : Poly). into F x (sums i)) piece-next
        ∙ merge_less F (get_or b (j * w) 0) (take (w - 1) (drop (suc (j * w)) b)) (pieces (j + 1)) (sums i)
        piece-nonzero.0 piece-sorted
        (against-above (take (w - 1) (drop (suc (j * w)) b)) (sums i) o) h.ascends)

    module _ (t : i < end) where
      -- the sum: its first term, and the others
      sum-next : sums i ≡ term_at (w - 1) b (i * w) ∷ sums (i + 1)
      sum-next = next b w i end h.some t

      -- they are sorted
      sum-sorted : Sorted (term_at (w - 1) b (i * w) ∷ sums (i + 1))
      sum-sorted = subst Sorted sum-next h.ascends

      -- the order of the two first terms
      facing-order : facing b w i end j
          ≡ order (take (w - 1) (drop (suc (j * w)) b)) (take (w - 1) (drop (suc (i * w)) b))
      facing-order = ap (against (take (w - 1) (drop (suc (j * w)) b))) sum-next

    -- the sum's term comes first
    pub step_sum : {b' : List ℕ} → facing b w i end j ≡ Ordering.gt
        → Grown b b' w k (k + 1) (k + 1) (term_at (w - 1) b (i * w) ∷ [])
        → Stepped F b b' w end last k i j (k + 1) (i + 1) j
    step_sum o g =
        let t : i < end = facing-left b w i end j Ordering.gt gt≢lt o in
        stepped (k + 1) (i + 1) j (k + 1) (term_at (w - 1) b (i * w) ∷ []) g (omega (arith, h.room)) (omega arith)
        (omega arith) (omega arith) (omega (arith, h.room)) (omega arith)
        (record { ascends = (sum-sorted t).1; sorted = h.sorted; nonzero = h.nonzero })
        (ap₂ (into F) piece-next (sum-next t)
        ∙ merge_more F (get_or b (j * w) 0) (take (w - 1) (drop (suc (j * w)) b)) (pieces (j + 1))
        (get_or b (i * w) 0) (take (w - 1) (drop (suc (i * w)) b)) (sums (i + 1)) (sym (facing-order t) ∙ o)
        piece-sorted
        ∙ ap {B = Poly} (λ (x : Poly). term_at (w - 1) b (i * w) ∷ into F x (sums (i + 1))) (sym piece-next))

    -- both have the same powers
    pub step_both : {b' : List ℕ} {n : ℕ} → facing b w i end j ≡ Ordering.eq
        → Grown b b' w k n (i + 1)
        (keep (F.add (get_or b (j * w) 0) (get_or b (i * w) 0)) (take (w - 1) (drop (suc (i * w)) b)) [])
        → Stepped F b b' w end last k i j n (i + 1) (j + 1)
    step_both {b'} {n} o g =
        let t : i < end = facing-left b w i end j Ordering.eq eq≢lt o in
        let x : ℕ = F.add (get_or b (j * w) 0) (get_or b (i * w) 0) in
        let e : List ℕ = take (w - 1) (drop (suc (j * w)) b) in
        let f : List ℕ = take (w - 1) (drop (suc (i * w)) b) in
        let q : order e f ≡ Ordering.eq = sym (facing-order t) ∙ o in
        let most : n ≤ k + 1 =
        omega (
          arith,
          sym (read_length (w - 1) b' 0 n) ∙ ap length g.terms
              ∙ length-append (read_terms (w - 1) b 0 k) (keep x f []),
          read_length (w - 1) b 0 k,
          keep-most x f,
        ) in
        stepped n (i + 1) (j + 1) (i + 1) (keep x f []) g (omega arith) (omega arith)
        (omega arith) (omega arith) (omega (arith, h.room)) (omega arith)
        (record { ascends = (sum-sorted t).1; sorted = piece-sorted.1; nonzero = piece-nonzero.1 })
        (ap₂ (into F) piece-next (sum-next t)
        ∙ merge_same F (get_or b (j * w) 0) e (pieces (j + 1)) (get_or b (i * w) 0) f (sums (i + 1)) q piece-sorted
        ∙ ap (λ (y : List ℕ). keep x y (into F (pieces (j + 1)) (sums (i + 1)))) (order_same e f q)
        ∙ keep-front x f (into F (pieces (j + 1)) (sums (i + 1))))
      where
        keep-most : (x : ℕ) (f : List ℕ) → length (keep x f []) ≤ 1
        keep-most zero f = omega arith
        keep-most (suc x) f = omega arith

        keep-front : (x : ℕ) (f : List ℕ) (p : Poly) → keep x f p ≡ keep x f [] ++ p
        keep-front zero f p = refl
        keep-front (suc x) f p = refl
