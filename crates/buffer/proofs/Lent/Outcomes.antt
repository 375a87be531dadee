-- The four outcomes of inserting a term t, each from what the moves of bytes left. Assumes nothing.
use mathlib.Core.Path.{◌≡◌, refl, sym, ap, ◌∙◌, subst}
use mathlib.Core.List.{List, [], ◌∷◌}
use Prim.Native.Nat.{ℕ, suc, ◌+◌, ◌*◌, ◌-◌, ◌≤◌, ◌<◌}
use Prim.Native.Nat.{Ordering as Order}
use Rattle.std.proofs.Common.{Bool, true, false}
use Rattle.std.specs.declared.cmp.Ordering.{Ordering}
use Rattle.std.specs.Ordering.{is_eq}
use native.Mathlib.Omega.{arith}
use native.Mathlib.Nat.{suc-mul, mul-le-mul_right}
use native.Mathlib.Numerals.{add-one}
use Rattle.field.specs.Xor.{◌⊕◌}
use lib.ListN.{length, get_or, take, drop, set, length-set}
use lib.Seq.{get_or-set_other}
use Rattle.field.specs.Laws.{gf}
use Rattle.poly.specs.Poly.{order, insert}
use Rattle.buffer.specs.Buffer.{read_terms, answer}
use Rattle.buffer.proofs.Lent.Place.{AllBefore}
use Rattle.buffer.specs.Insert.{Placed, Inserted}
use Rattle.buffer.specs.Move.{MovedUp, MovedDown, Written}
use Rattle.buffer.proofs.Lent.Strides.{row_end}
use Rattle.buffer.proofs.Lent.Places.{same-order, answer-equal, answer-less}
use Rattle.buffer.proofs.Lent.Inserting.{zero-front, one_more, one_less, other-coef}

-- t's powers against those of the term at place i
abbrev pub there : List ℕ → List ℕ → ℕ → Order
there b t i = order (drop 1 t) (take (length t - 1) (drop (suc (i * length t)) b))

-- the term at place i compared with t: r is the answer, and k says whether it is `Equal`
module _ (b t : List ℕ) (m i : ℕ) (p : 0 < length t) (f : suc m * length t ≤ length b) (l : i < m)
    {r : Ordering} {k : Bool}
    (a : r ≡ answer (order (take (length t - 1) (drop 1 t))
    (take (i * length t + length t - (i * length t + 1)) (drop (i * length t + 1) b)))) (q : k ≡ is_eq r) where
  -- the term stands in the buffer
  fits : i * length t + length t ≤ length b
  fits = omega (arith, row_end i m (length t) l, suc-mul m (length t))

  -- the answer is that of the powers
  same : k ≡ is_eq (answer (there b t i))
  same = q ∙ ap is_eq a ∙ ap (λ (o : Order). is_eq (answer o)) (same-order b t (i * length t) p fits)

  -- the same powers stand there
  pub there-same : k ≡ true → there b t i ≡ Order.eq
  there-same h = answer-equal (there b t i) (sym same ∙ h)

  -- t comes first
  pub there-less : k ≡ false → Placed b m t i → there b t i ≡ Order.lt
  there-less h d = answer-less (there b t i) (sym same ∙ h) (d.before l)

module _ (m' : ℕ) (b : List ℕ) (m i : ℕ) where
  -- the powers of a term of n + 1 bytes
  less_one : (n : ℕ) → n ≡ suc n - 1
  less_one n = omega arith

  -- the coefficient is zero: nothing is done
  pub ins_zero : (t : List ℕ) → 0 < length t → Placed b m t i → (i < m → there b t i ≡ Order.lt) → get_or t 0 0 ≡ 0
      → Inserted (gf m') b b m t m
  ins_zero [] p d a z = absurd (omega arith)
  ins_zero (c ∷ e) p d a z =
      let q = less_one (length e) in
      record {
        size = refl;
        terms = subst (λ (x : ℕ). read_terms x b 0 m ≡ insert (gf m') c e (read_terms x b 0 m)) q
            (zero-front m' b c e m i d.within (subst (λ (x : ℕ). AllBefore e (read_terms x b 0 i)) (sym q)
            d.behind)
            (λ l. subst (λ (x : ℕ). order e (take x (drop (suc (i * suc (length e))) b)) ≡ Order.lt) (sym q) (a l))
            z);
        high = λ j h. refl;
      }

  -- the terms behind move up, and t is written
  pub ins_more : (t b₁ b₂ : List ℕ) → 0 < length t → suc m * length t ≤ length b → Placed b m t i
      → (i < m → there b t i ≡ Order.lt) → 0 < get_or t 0 0
      → MovedUp b b₁ (i * length t) (m * length t) (length t) → Written b₁ b₂ (i * length t) t
      → Inserted (gf m') b b₂ m t (m + 1)
  ins_more [] b₁ b₂ p f d a z u w = absurd (omega arith)
  ins_more (c ∷ e) b₁ b₂ p f d a z u w =
      let q = less_one (length e) in
      let s : suc m * suc (length e) ≡ m * suc (length e) + suc (length e) = suc-mul m (suc (length e)) in
      let r : i * suc (length e) ≤ m * suc (length e) = mul-le-mul_right (suc (length e)) d.within in
      record {
        size = w.size ∙ u.size;
        terms = subst (λ (x : ℕ). read_terms x b₂ 0 (m + 1) ≡ insert (gf m') c e (read_terms x b 0 m)) q
            (ap (read_terms (length e) b₂ 0) (add-one m)
            ∙ one_more m' b c e m i d.within (subst (λ (x : ℕ). AllBefore e (read_terms x b 0 i)) (sym q)
            d.behind) b₂
            (λ l. subst (λ (x : ℕ). order e (take x (drop (suc (i * suc (length e))) b)) ≡ Order.lt) (sym q) (a l))
            z f
            (w.size ∙ u.size)
            (λ j h. w.low j h ∙ u.low j (omega arith))
            (λ j h. w.here j h)
            (λ j h k. w.high (j + suc (length e)) (omega arith) ∙ u.moved j h k));
        high = λ j h. w.high j (omega arith) ∙ u.high j (omega arith);
      }

  -- the joined coefficient is zero: the terms behind move down
  pub ins_less : (t b' : List ℕ) → 0 < length t → suc m * length t ≤ length b → Placed b m t i → i < m
      → there b t i ≡ Order.eq
      → get_or t 0 0 ⊕ get_or b (i * length t) 0 ≡ 0 → MovedDown b b' (i * length t + length t) (m * length t) (length t)
      → Inserted (gf m') b b' m t (m - 1)
  ins_less [] b' p f d l a z u = absurd (omega arith)
  ins_less (c ∷ e) b' p f d l a z u =
      let q = less_one (length e) in
      let s : suc m * suc (length e) ≡ m * suc (length e) + suc (length e) = suc-mul m (suc (length e)) in
      record {
        size = u.size;
        terms = subst (λ (x : ℕ). read_terms x b' 0 (m - 1) ≡ insert (gf m') c e (read_terms x b 0 m)) q
            (one_less m' b c e m i d.within (subst (λ (x : ℕ). AllBefore e (read_terms x b 0 i)) (sym q)
            d.behind) l
            (subst (λ (x : ℕ). order e (take x (drop (suc (i * suc (length e))) b)) ≡ Order.eq) (sym q) a)
            b' z (omega arith) u.size (λ j h. u.low j (omega arith)) (λ j h k. u.moved j (omega arith) k));
        high = λ j h. u.high j (omega arith);
      }

  -- the joined coefficient is written
  pub ins_coef : (t : List ℕ) → 0 < length t → suc m * length t ≤ length b → Placed b m t i → i < m
      → there b t i ≡ Order.eq
      → 0 < get_or t 0 0 ⊕ get_or b (i * length t) 0
      → Inserted (gf m') b (set b (i * length t) (get_or t 0 0 ⊕ get_or b (i * length t) 0)) m t m
  ins_coef [] p f d l a z = absurd (omega arith)
  ins_coef (c ∷ e) p f d l a z =
      let q = less_one (length e) in
      let v : ℕ = c ⊕ get_or b (i * suc (length e)) 0 in
      let s : suc m * suc (length e) ≡ m * suc (length e) + suc (length e) = suc-mul m (suc (length e)) in
      let g : i * suc (length e) + suc (length e) ≤ m * suc (length e) = row_end i m (suc (length e)) l in
      record {
        size = length-set b (i * suc (length e)) v;
        terms =
            subst (λ (x : ℕ). read_terms x (set b (i * suc (length e)) v) 0 m ≡ insert (gf m') c e (read_terms x b 0 m)) q
            (other-coef m' b c e m i d.within (subst (λ (x : ℕ). AllBefore e (read_terms x b 0 i)) (sym q)
            d.behind) l
            (subst (λ (x : ℕ). order e (take x (drop (suc (i * suc (length e))) b)) ≡ Order.eq) (sym q) a) z
            (omega arith));
        high = λ j h. get_or-set_other b (i * suc (length e)) j v 0 (omega arith);
      }
