-- Inserting a term c ∷ e, behind the first i of m terms of a buffer: what each way of doing it leaves. Assumes nothing.
use mathlib.Core.Path.{◌≡◌, refl, sym, ap, ap₂, ◌∙◌}
use mathlib.Core.List.{List, ◌∷◌, ◌++◌}
use Prim.Native.Nat.{Ordering}
use Prim.Native.Nat.{ℕ, zero, suc, ◌+◌, ◌*◌, ◌-◌, ◌≤◌, ◌<◌}
use native.Mathlib.Omega.{arith}
use native.Mathlib.Nat.{suc-mul, add-mul}
use Rattle.field.specs.Xor.{◌⊕◌}
use lib.ListN.{length, get_or, take, drop, set, length-set}
use lib.Seq.{get_or-set_same, get_or-set_other, drop-set-lt}
use Rattle.field.specs.Laws.{Ops, gf}
use Rattle.poly.specs.Poly.{term, Poly, order, keep, insert}
use Rattle.buffer.specs.Buffer.{term_at, read_terms}
use Rattle.poly.proofs.Laws.Order.{order_same}
use Rattle.buffer.proofs.Lent.Reads.{read-parts, read_same, read-shift, term-written}
use Rattle.buffer.proofs.Lent.Place.{AllBefore, insert_skip, insert-before, insert-into}
use Rattle.buffer.proofs.Lent.Strides.{row_end}

module _ (m' : ℕ) (b : List ℕ) (c : ℕ) (e : List ℕ) (m i : ℕ) (l : i ≤ m)
    (behind : AllBefore e (read_terms (length e) b 0 i)) where
  -- the field
  abbrev F : Ops
  F = gf m'

  -- the number of variables
  abbrev n : ℕ
  n = length e

  -- the terms in front, and k behind them
  split : (b' : List ℕ) (k : ℕ) → read_terms n b' 0 (i + k) ≡ read_terms n b' 0 i ++ read_terms n b' (i * suc n) k
  split b' k =
      let z : 0 + i * suc n ≡ i * suc n = omega arith in
      read-parts n b' 0 i k ∙ ap (λ (x : ℕ). read_terms n b' 0 i ++ read_terms n b' x k) z

  -- the terms in front, and the rest
  whole : read_terms n b 0 m ≡ read_terms n b 0 i ++ read_terms n b (i * suc n) (m - i)
  whole =
      let s : m ≡ i + (m - i) = omega arith in
      ap (read_terms n b 0) s ∙ split b (m - i)

  -- the term is inserted into the rest
  inserted : insert F c e (read_terms n b 0 m) ≡ read_terms n b 0 i ++ insert F c e (read_terms n b (i * suc n) (m - i))
  inserted = ap (insert F c e) whole ∙ insert_skip F c e (read_terms n b 0 i) (read_terms n b (i * suc n) (m - i)) behind

  -- the front is as it was
  front : (b' : List ℕ) → length b' ≡ length b → ((j : ℕ) → j < i * suc n → get_or b' j 0 ≡ get_or b j 0)
      → read_terms n b' 0 i ≡ read_terms n b 0 i
  front b' s h = read_same n b' b 0 i s (λ j p q. h j (omega arith))

  -- the rest, from the first term that does not come before
  abbrev Ahead : Type 0
  Ahead = i < m → order e (take n (drop (suc (i * suc n)) b)) ≡ Ordering.lt

  -- in front of the rest, where the rest comes behind it
  rest-front : Ahead → insert F c e (read_terms n b (i * suc n) (m - i)) ≡ keep c e (read_terms n b (i * suc n) (m - i))
  rest-front h = go (m - i) refl
    where
      go : (k : ℕ) → m - i ≡ k → insert F c e (read_terms n b (i * suc n) k) ≡ keep c e (read_terms n b (i * suc n) k)
      go zero q = refl
      go (suc k) q =
          insert-before F c e (get_or b (i * suc n) 0) (take n (drop (suc (i * suc n)) b))
          (read_terms n b (i * suc n + suc n) k) (h (omega arith))

  -- ---- nothing to insert

  -- a coefficient of zero: nothing is inserted
  pub zero-front : Ahead → c ≡ 0 → read_terms n b 0 m ≡ insert F c e (read_terms n b 0 m)
  zero-front h z =
      whole ∙ sym (inserted ∙ ap (λ (q : Poly). read_terms n b 0 i ++ q)
      (rest-front h ∙ ap (λ (x : ℕ). keep x e (read_terms n b (i * suc n) (m - i))) z))

  -- ---- a term more

  -- a coefficient other than zero is kept
  keep_pos : (x : ℕ) (q : Poly) → 0 < x → keep x e q ≡ term x e ∷ q
  keep_pos zero q h = absurd (omega arith)
  keep_pos (suc x) q h = refl

  -- the term that was written
  term_here_lem : (b' : List ℕ) (at : ℕ) → at + suc n ≤ length b'
      → ((j : ℕ) → j < suc n → get_or b' (at + j) 0 ≡ get_or (c ∷ e) j 0) → term_at n b' at ≡ term c e
  term_here_lem b' at q h = term-written n b' at c e refl q h

  -- the term is written, and the rest moved up behind it
  pub one_more : (b' : List ℕ) → Ahead → 0 < c → suc m * suc n ≤ length b → length b' ≡ length b
      → ((j : ℕ) → j < i * suc n → get_or b' j 0 ≡ get_or b j 0)
      → ((j : ℕ) → j < suc n → get_or b' (i * suc n + j) 0 ≡ get_or (c ∷ e) j 0)
      → ((j : ℕ) → i * suc n ≤ j → j < m * suc n → get_or b' (j + suc n) 0 ≡ get_or b j 0)
      → read_terms n b' 0 (suc m) ≡ insert F c e (read_terms n b 0 m)
  one_more b' h p f s low here moved =
      let k : ℕ = m - i in
      let r : suc m ≡ i + suc k = omega arith in
      let u : suc m * suc n ≡ m * suc n + suc n = suc-mul m (suc n) in
      let v : (i + k) * suc n ≡ i * suc n + k * suc n = add-mul i k (suc n) in
      let y : i + k ≡ m = omega arith in
      let x : (i + k) * suc n ≡ m * suc n = ap (λ (z : ℕ). z * suc n) y in
      ap (read_terms n b' 0) r ∙ split b' (suc k)
      ∙ ap₂ (λ (p q : Poly). p ++ q) (front b' s low)
      (ap₂ {C = Poly} ◌∷◌ (term_here_lem b' (i * suc n) (omega arith) here)
      (read-shift n b b' (i * suc n) (suc n) k (omega arith) (omega arith) (λ j a g. moved j a (omega arith))))
      ∙ sym (inserted ∙ ap (λ (q : Poly). read_terms n b 0 i ++ q)
      (rest-front h ∙ keep_pos c (read_terms n b (i * suc n) (m - i)) p))

  -- ---- a term that is there already

  module _ (lt : i < m) (same : order e (take n (drop (suc (i * suc n)) b)) ≡ Ordering.eq) where
    -- the rest begins with the term that has these powers
    rest-same : read_terms n b (i * suc n) (m - i) ≡ term_at n b (i * suc n) ∷ read_terms n b (i * suc n + suc n)
        (m - suc i)
    rest-same =
        let s : m - i ≡ suc (m - suc i) = omega arith in
        ap (read_terms n b (i * suc n)) s

    -- the coefficients are joined
    joined : insert F c e (read_terms n b 0 m)
        ≡ read_terms n b 0 i ++ keep (c ⊕ get_or b (i * suc n) 0) e (read_terms n b (i * suc n + suc n) (m - suc i))
    joined =
        inserted ∙ ap (λ (q : Poly). read_terms n b 0 i ++ q)
        (ap (insert F c e) rest-same
        ∙ insert-into F c e (get_or b (i * suc n) 0) (take n (drop (suc (i * suc n)) b))
        (read_terms n b (i * suc n + suc n) (m - suc i)) same)

    -- it goes
    pub one_less : (b' : List ℕ) → c ⊕ get_or b (i * suc n) 0 ≡ 0 → m * suc n ≤ length b → length b' ≡ length b
        → ((j : ℕ) → j < i * suc n → get_or b' j 0 ≡ get_or b j 0)
        → ((j : ℕ) → i * suc n ≤ j → j + suc n < m * suc n → get_or b' j 0 ≡ get_or b (j + suc n) 0)
        → read_terms n b' 0 (m - 1) ≡ insert F c e (read_terms n b 0 m)
    one_less b' z f s low moved =
        let k : ℕ = m - suc i in
        let r : m - 1 ≡ i + k = omega arith in
        let y : i + suc k ≡ m = omega arith in
        let x : (i + suc k) * suc n ≡ m * suc n = ap (λ (z : ℕ). z * suc n) y in
        let v : (i + suc k) * suc n ≡ i * suc n + suc k * suc n = add-mul i (suc k) (suc n) in
        let u : suc k * suc n ≡ k * suc n + suc n = suc-mul k (suc n) in
        ap (read_terms n b' 0) r ∙ split b' k
        ∙ ap₂ (λ (p q : Poly). p ++ q) (front b' s low)
        (sym (read-shift n b' b (i * suc n) (suc n) k (omega arith) (omega arith)
        (λ j a g. sym (moved j a (omega arith)))))
        ∙ sym (joined ∙ ap (λ (w : ℕ). read_terms n b 0 i ++ keep w e (read_terms n b (i * suc n + suc n) k)) z)

    -- its coefficient changes
    pub other-coef : 0 < c ⊕ get_or b (i * suc n) 0 → m * suc n ≤ length b
        → read_terms n (set b (i * suc n) (c ⊕ get_or b (i * suc n) 0)) 0 m ≡ insert F c e (read_terms n b 0 m)
    other-coef p f =
        let v : ℕ = c ⊕ get_or b (i * suc n) 0 in
        let at : ℕ = i * suc n in
        let b' : List ℕ = set b at v in
        let k : ℕ = m - suc i in
        let r : m ≡ i + suc k = omega arith in
        let g : i * suc n + suc n ≤ m * suc n = row_end i m (suc n) lt in
        let d : drop (suc at) b' ≡ drop (suc at) b = drop-set-lt (suc at) b at v (omega arith) in
        ap (read_terms n b' 0) r ∙ split b' (suc k)
        ∙ ap₂ (λ (p q : Poly). p ++ q)
        (front b' (length-set b at v) (λ j h. get_or-set_other b at j v 0 (omega arith)))
        (ap₂ {C = Poly} ◌∷◌
        (ap₂ term (get_or-set_same b at v 0 (omega arith))
        (ap (take n) d ∙ sym (order_same e (take n (drop (suc at) b)) same)))
        (read_same n b' b (at + suc n) k (length-set b at v) (λ j h q. get_or-set_other b at j v 0 (omega arith))))
        ∙ sym (joined ∙ ap (λ (q : Poly). read_terms n b 0 i ++ q) (keep_pos v (read_terms n b (i * suc n + suc n) k) p))
