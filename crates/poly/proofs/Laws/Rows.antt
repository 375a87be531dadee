-- The terms of a polynomial that agree on all variables but the first are a polynomial in that one. So where as
-- many different bytes as the first variable has possible powers leave no term when they are put in, there was no
-- term. Assumes nothing.
use mathlib.Core.Path.{◌≡◌, refl, sym, ap, ap₂, ◌∙◌, subst}
use mathlib.Core.List.{List, [], ◌∷◌}
use Prim.Native.Nat.{ℕ, zero, suc, ◌≤◌, ◌<◌, compare, Ordering}
use Prim.Native.Nat.compare
use native.Mathlib.Omega.{arith}
use native.Mathlib.Nat.{le_of_suc-le-suc, zero-lt-suc}
use lib.ListN.{length}
use Rattle.field.specs.Field.{power}
use Rattle.field.specs.Laws.{Ops, Laws}
use Rattle.poly.specs.Poly.{term, Poly, or_else, order}
use Rattle.poly.specs.Value.{only, coef}
use Rattle.poly.specs.First.{put_raw, put}
use Rattle.poly.specs.Canon.{Within, Powers, Coefs, Byte, Canon, Some}
use Rattle.field.proofs.Laws.Algebra.{zero-add, add_swap, mul-zero, mul-one, mul_left_comm}
use Rattle.poly.proofs.Laws.Normal.{coef-normal, coef_head, canon-raw}
use Rattle.poly.proofs.Laws.Roots.{Each, AllZero, AllBytes, Different, horner, roots, each_map}

-- the first d values of f
abbrev dense : ℕ → (ℕ → ℕ) → List ℕ
dense zero f = []
dense (suc d) f = f 0 ∷ dense d (λ k. f (suc k))

-- there are d of them
length-dense : (d : ℕ) (f : ℕ → ℕ) → length (dense d f) ≡ d
length-dense zero f = refl
length-dense (suc d) f = ap suc (length-dense d (λ k. f (suc k)))

-- values that are bytes
dense-bytes : (d : ℕ) (f : ℕ → ℕ) → ((k : ℕ) → f k < 256) → AllBytes (dense d f)
dense-bytes zero f h = tt
dense-bytes (suc d) f h = (h 0, dense-bytes d (λ k. f (suc k)) (λ k. h (suc k)))

-- where all of them are zero, each is
dense-zero : (d : ℕ) (f : ℕ → ℕ) → AllZero (dense d f) → (k : ℕ) → k < d → f k ≡ 0
dense-zero zero f h k l = absurd (omega arith)
dense-zero (suc d) f h zero l = h.0
dense-zero (suc d) f h (suc k) l = dense-zero d (λ j. f (suc j)) h.1 k (le_of_suc-le-suc l)

-- the same values give the same list
dense-same : (d : ℕ) (f g : ℕ → ℕ) → ((k : ℕ) → f k ≡ g k) → dense d f ≡ dense d g
dense-same zero f g h = refl
dense-same (suc d) f g h = ap₂ ◌∷◌ (h 0) (dense-same d (λ k. f (suc k)) (λ k. g (suc k)) (λ k. h (suc k)))

module _ (F : Ops) (L : Laws F) where
  open F use {add, mul}
  open L.ring use {add-byte, add-zero, distrib}

  -- a coefficient or zero is a byte
  only-byte : (o : Ordering) (c : ℕ) → c < 256 → only o c < 256
  only-byte Ordering.lt c h = zero-lt-suc 255
  only-byte Ordering.eq c h = h
  only-byte Ordering.gt c h = zero-lt-suc 255

  -- a coefficient is a byte
  pub coef-byte : (p : Poly) (x : List ℕ) → Coefs Byte p → coef F p x < 256
  coef-byte [] x h = zero-lt-suc 255
  coef-byte (term c e ∷ p) x h = add-byte (only-byte (order e x) c h.0) (coef-byte p x h.1)

  -- ---- Horner's rule on the values of a function

  -- zeros everywhere give zero
  horner-none : (d x : ℕ) → horner F (dense d (λ k. 0)) x ≡ 0
  horner-none zero x = refl
  horner-none (suc d) x = ap (λ (y : ℕ). add 0 (mul x y)) (horner-none d x) ∙ ap (add 0) (mul-zero L.ring x)
      ∙ add-zero 0

  -- the values of a sum
  horner-add : (d : ℕ) (f g : ℕ → ℕ) (x : ℕ) → horner F (dense d (λ k. add (f k) (g k))) x
      ≡ add (horner F (dense d f) x) (horner F (dense d g) x)
  horner-add zero f g x = sym (add-zero 0)
  horner-add (suc d) f g x =
      ap (λ (y : ℕ). add (add (f 0) (g 0)) (mul x y)) (horner-add d (λ k. f (suc k)) (λ k. g (suc k)) x)
      ∙ ap (add (add (f 0) (g 0))) (distrib x (horner F (dense d (λ k. f (suc k))) x)
      (horner F (dense d (λ k. g (suc k))) x))
      ∙ add_swap L.ring (f 0) (g 0) (mul x (horner F (dense d (λ k. f (suc k))) x))
      (mul x (horner F (dense d (λ k. g (suc k))) x))

  -- one coefficient, at k
  horner-one : (d k c x : ℕ) → k < d → c < 256 → horner F (dense d (λ j. only (compare k j) c)) x
      ≡ mul c (power mul x k)
  horner-one zero k c x h l = absurd (omega arith)
  horner-one (suc d) zero c x h l =
      ap₂ (λ (o : Ordering) (t : List ℕ). add (only o c) (mul x (horner F t x))) compare.zero-zero
      (dense-same d (λ j. only (compare 0 (suc j)) c) (λ j. 0)
      (λ j. ap (λ (o : Ordering). only o c) (compare.zero-suc j)))
      ∙ ap (λ (y : ℕ). add c (mul x y)) (horner-none d x)
      ∙ ap (add c) (mul-zero L.ring x) ∙ add-zero c ∙ sym (mul-one L.ring c l)
  horner-one (suc d) (suc k) c x h l =
      ap₂ (λ (o : Ordering) (t : List ℕ). add (only o c) (mul x (horner F t x))) (compare.suc-zero k)
      (dense-same d (λ j. only (compare (suc k) (suc j)) c) (λ j. only (compare k j) c)
      (λ j. ap (λ (o : Ordering). only o c) (compare.suc-suc k j)))
      ∙ zero-add L.ring (mul x (horner F (dense d (λ j. only (compare k j) c)) x))
      ∙ ap (mul x) (horner-one d k c x (le_of_suc-le-suc h) l)
      ∙ mul_left_comm L.ring x c (power mul x k)

  -- ---- rows

  -- the row of one term
  row-term : (o : Ordering) (d k c a : ℕ) → k < d → c < 256
      → horner F (dense d (λ j. only (or_else o (compare k j)) c)) a ≡ only o (mul c (power mul a k))
  row-term Ordering.lt d k c a h l = horner-none d a
  row-term Ordering.eq d k c a h l = horner-one d k c a h l
  row-term Ordering.gt d k c a h l = horner-none d a

  -- the coefficient of the other powers e, when a is put in, is the row of e at a
  row : (d : ℕ) (ds : List ℕ) (a : ℕ) (e : List ℕ) (p : Poly) → Powers (Within (d ∷ ds)) p → Coefs Byte p
      → coef F (put_raw F a p) e ≡ horner F (dense (suc d) (λ k. coef F p (k ∷ e))) a
  row d ds a e [] h l = sym (horner-none (suc d) a)
  row d ds a e (term c [] ∷ p) h l = absurd h.0
  row d ds a e (term c (k ∷ f) ∷ p) h l =
      ap₂ add
      (sym (row-term (order f e) (suc d) k c a (omega (arith, h.0.0)) l.0))
      (row d ds a e p h.1 l.1)
      ∙ sym (horner-add (suc d) (λ j. only (or_else (order f e) (compare k j)) c) (λ j. coef F p (j ∷ e)) a)

  -- THEOREM: more different bytes than the highest power of the first variable do not all leave no term
  pub some_left : {n : ℕ} (d : ℕ) (ds : List ℕ) (p : Poly) (rs : List ℕ) → Canon (suc n) p → Some p
      → Powers (Within (d ∷ ds)) p
      → AllBytes rs → Different rs → d < length rs → Each (λ r. put F r p ≡ []) rs → ⊥
  some_left d ds [] rs h s w hb hd l z = s
  some_left d ds (term c [] ∷ p) rs h s w hb hd l z = absurd w.0
  some_left d ds (term c (k ∷ e) ∷ p) rs h s w hb hd l z =
      let q : Poly = term c (k ∷ e) ∷ p in
      let f : ℕ → ℕ = λ j. coef F q (j ∷ e) in
      let y = (canon-raw h).coefs in
      let all : AllZero (dense (suc d) f) = roots F L rs (dense (suc d) f) hb hd
      (dense-bytes (suc d) f (λ j. coef-byte q (j ∷ e) y))
      (subst (λ (m : ℕ). m ≤ length rs) (sym (length-dense (suc d) f)) l)
      (each_map (λ r g. sym (row d ds r e q w y) ∙ sym (coef-normal F L (put_raw F r q) e)
      ∙ ap (λ (t : Poly). coef F t e) g) rs z) in
      let none : c ≡ 0 = sym (coef_head F L c (k ∷ e) p h.sorted.0 h.sorted.1)
      ∙ dense-zero (suc d) f all k (omega (arith, w.0.0)) in
      omega (arith, h.coefs.0.0)
