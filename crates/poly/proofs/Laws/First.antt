-- `first_differing` of a polynomial with a term: each byte exists and is at most its variable's highest power, the
-- value there is not zero, and it is zero at every list before it. It turns on `some_left`: the powers bound the
-- bytes that leave nothing.
use mathlib.Core.Path.{◌≡◌, refl, sym, ap, ap₂, ◌∙◌, subst}
use mathlib.Core.Logic.{◌≢◌, ◌⊎◌, inl, inr}
use mathlib.Core.List.{List, [], ◌∷◌}
use Prim.Native.Nat.{Ordering}
use Prim.Native.Nat.{ℕ, zero, suc, ◌+◌, ◌≤◌, ◌<◌, zero-le}
use native.Mathlib.Omega.{arith}
use native.Mathlib.Nat.{eq-or-lt_of_le, le_refl, le_of_suc-le-suc}
use native.Mathlib.Decide.{dec_le}
use lib.ListN.{length, replicate, take}
use Rattle.field.specs.Laws.{Ops, Laws}
use Rattle.poly.specs.Poly.{term, Poly, order}
use Rattle.poly.specs.Value.{mono, eval}
use Rattle.poly.specs.First.{put, unless_none, seek, first_byte, first_differing, max_each, highest}
use Rattle.poly.specs.Canon.{Within, ByteList, Spare, Powers, Coefs, Above, Sorted, NonzeroByte, Canon, Some}
use Rattle.poly.specs.Canon.{Before}
use Rattle.field.proofs.Laws.Algebra.{mul-one}
use Rattle.poly.proofs.Laws.Order.{eq≢lt, order_self}
use Rattle.poly.proofs.Laws.Normal.{powers-map}
use Rattle.poly.proofs.Laws.Value.{eval-put}
use Rattle.poly.proofs.Laws.Reduced.{zeros-bytes, canon-put, put-within, put-spare}
use Rattle.poly.proofs.Laws.Roots.{Each, Different}
use Rattle.poly.proofs.Laws.Rows.{some_left}

-- ---- n numbers from a on

-- n numbers from a on
abbrev range : ℕ → ℕ → List ℕ
range a zero = []
range a (suc n) = a ∷ range (suc a) n

-- there are n of them
length-range : (a n : ℕ) → length (range a n) ≡ n
length-range a zero = refl
length-range a (suc n) = ap suc (length-range (suc a) n)

-- what holds of every number from a to a + n holds of each in the range
range-each : (P : ℕ → Type 0) (a n : ℕ) → ((b : ℕ) → a ≤ b → b < a + n → P b) → Each P (range a n)
range-each P a zero h = tt
range-each P a (suc n) h =
    (h a (le_refl a) (omega arith), range-each P (suc a) n (λ b l m. h b (omega arith) (omega arith)))

-- no number stands in a range twice
range_different : (a n : ℕ) → Different (range a n)
range_different a zero = tt
range_different a (suc n) = (range-each (λ s. a ≢ s) (suc a) n (λ b l m. omega arith), range_different (suc a) n)

-- ---- the search

module _ (f : ℕ → Poly) where
  -- f has no term at any number before the one that is found
  none_before : (k a b : ℕ) → a ≤ b → b < seek k a f → f b ≡ []
  none_before zero a b h l = absurd (omega arith)
  none_before (suc k) a b h l = go (none_before k (suc a) b) (f a) refl l
    where
      step : (suc a ≤ b → f b ≡ []) → f a ≡ [] → (a ≡ b) ⊎ (a < b) → f b ≡ []
      step ih e (inl m) = subst (λ (x : ℕ). f x ≡ []) m e
      step ih e (inr m) = ih m

      go : (suc a ≤ b → b < seek k (suc a) f → f b ≡ []) → (q : Poly) → f a ≡ q
          → b < unless_none q a (seek k (suc a) f) → f b ≡ []
      go ih [] e m = step (λ n. ih n m) e (eq-or-lt_of_le h)
      go ih (t ∷ q) e m = absurd (omega arith)

  -- f has a term at the number that is found
  some_at : (k a : ℕ) → seek k a f < a + k → Some (f (seek k a f))
  some_at zero a h = absurd (omega arith)
  some_at (suc k) a h = go (some_at k (suc a)) (f a) refl h
    where
      go : (seek k (suc a) f < suc a + k → Some (f (seek k (suc a) f))) → (q : Poly) → f a ≡ q
          → unless_none q a (seek k (suc a) f) < a + suc k → Some (f (unless_none q a (seek k (suc a) f)))
      go ih [] e m = ih (omega arith)
      go ih (t ∷ q) e m = subst Some (sym e) tt

module _ (F : Ops) where
  -- a byte before the first one leaves no term
  pub first_byte-before : (p : Poly) (b : ℕ) → b < first_byte F p → put F b p ≡ []
  unfolding first_byte
  first_byte-before p b h = none_before (λ a. put F a p) 256 0 b zero-le h

  -- the first byte leaves a term
  pub first_byte-some : (p : Poly) → first_byte F p < 256 → Some (put F (first_byte F p) p)
  unfolding first_byte
  first_byte-some p h = some_at (λ a. put F a p) 256 0 h

module _ (F : Ops) (L : Laws F) where
  open F use {add, mul}
  open L.ring use {add-zero}

  -- some byte up to the highest power of the first variable leaves a term
  pub first_byte-bound : {n : ℕ} (d : ℕ) (ds : List ℕ) (p : Poly) → d < 256 → Canon (suc n) p → Some p
      → Powers (Within (d ∷ ds)) p → first_byte F p ≤ d
  first_byte-bound d ds p l h s w = go (dec_le (first_byte F p) d)
    where
      go : Dec (first_byte F p ≤ d) → first_byte F p ≤ d
      go (yes m) = m
      go (no m) =
          absurd (some_left F L d ds p (range 0 (suc d)) h s w
          (range-each (λ b. b < 256) 0 (suc d) (λ b x y. omega arith))
          (range_different 0 (suc d))
          (omega (arith, length-range 0 (suc d)))
          (range-each (λ b. put F b p ≡ []) 0 (suc d) (λ b x y. first_byte-before F p b (omega arith))))

  -- ---- no variables left: a term is a value that is not zero

  -- the product of no powers is 1
  mono-none : (e : List ℕ) → mono F e [] ≡ 1
  mono-none [] = refl
  mono-none (k ∷ e) = refl

  -- a term stands alone where all terms have the same powers
  alone : (z e : List ℕ) (p : Poly) → e ≡ z → Above e p → Powers (λ f. f ≡ z) p → p ≡ []
  alone z e [] q a w = refl
  alone z e (term d f ∷ p) q a w =
      absurd (eq≢lt (subst (λ (x : List ℕ). Ordering.eq ≡ order e x) (q ∙ sym w.0) (sym (order_self e)) ∙ a))

  -- with no variable left, a polynomial with a term has a value other than zero
  pub last : (k : ℕ) (p : Poly) → Sorted p → Coefs NonzeroByte p → Powers (Spare 0 k) p → Some p → eval F p [] ≢ 0
  last k [] o h w s = absurd s
  last k (term c e ∷ p) o h w s = λ z.
      let q : eval F (term c e ∷ p) [] ≡ c =
      ap₂ (λ (m : ℕ) (r : Poly). add (mul c m) (eval F r [])) (mono-none e)
      (alone (replicate k 0) e p w.0 o.0 w.1)
      ∙ add-zero (mul c 1) ∙ mul-one L.ring c h.0.1 in
      let y : c ≡ 0 = sym q ∙ z in
      omega (arith, h.0.0)

  -- ---- THEOREMS. A term has n powers, and the first v variables are in use

  -- the first v of n bounds of 255
  take-bytes : (v n : ℕ) → v ≤ n → take {A = ℕ} v (replicate n 255) ≡ replicate v 255
  take-bytes zero n h = refl
  take-bytes (suc v) zero h = absurd (omega arith)
  take-bytes (suc v) (suc n) h = ap {B = List ℕ} (λ e. 255 ∷ e) (take-bytes v n (le_of_suc-le-suc h))

  -- 255 is at most 255, n times
  bytes-refl : (n : ℕ) → ByteList n (replicate n 255)
  bytes-refl zero = tt
  bytes-refl (suc n) = (le_refl 255, bytes-refl n)

  -- the chosen bytes lie below any bounds of the powers
  pub first-within : (v n : ℕ) (ds : List ℕ) (p : Poly) → v ≤ n → ByteList n ds → Canon n p → Some p
      → Powers (Within ds) p
      → Within (take v ds) (first_differing F v p)
  first-within zero n ds p i l h s w = tt
  first-within (suc v) zero ds p i l h s w = absurd (omega arith)
  first-within (suc v) (suc n) [] p i l h s w = absurd l
  first-within (suc v) (suc n) (d ∷ ds) p i l h s w =
      let m : first_byte F p ≤ d = first_byte-bound d ds p (omega (arith, l.0)) h s w in
      let a : ℕ = first_byte F p in (
        m,
        first-within v n ds (put F a p) (le_of_suc-le-suc i) l.1 (canon-put F L a p h)
            (first_byte-some F p (omega (arith, l.0))) (put-within F d ds a p w),
      )

  -- the chosen bytes are bytes
  pub first-bytes : (v n : ℕ) (p : Poly) → v ≤ n → Canon n p → Some p → ByteList v (first_differing F v p)
  first-bytes v n p i h s =
      subst (λ (ds : List ℕ). Within ds (first_differing F v p)) (take-bytes v n i)
      (first-within v n (replicate n 255) p i (bytes-refl n) h s h.powers)

  -- the value at the chosen bytes is not zero
  pub first-differs : (v k n : ℕ) (p : Poly) → Canon n p → Powers (Spare v k) p → Some p
      → eval F p (first_differing F v p) ≢ 0
  first-differs zero k n p h u s = last k p h.sorted h.coefs u s
  first-differs (suc v) k zero [] h u s = absurd s
  first-differs (suc v) k zero (term c [] ∷ p) h u s = absurd u.0
  first-differs (suc v) k zero (term c (a ∷ e) ∷ p) h u s = absurd h.powers.0
  first-differs (suc v) k (suc n) p h u s = λ z.
      let a : ℕ = first_byte F p in
      let m : a ≤ 255 = first_byte-bound 255 (replicate n 255) p (le_refl 256) h s h.powers in
      first-differs v k n (put F a p) (canon-put F L a p h) (put-spare F v k a p u) (first_byte-some F p (omega arith))
      (eval-put F L a p (first_differing F v (put F a p)) ∙ z)

  -- every list that comes before has the value zero
  pub first-least : (v : ℕ) (p : Poly) (xs : List ℕ) → Before xs (first_differing F v p) → eval F p xs ≡ 0
  first-least zero p [] b = absurd b
  first-least zero p (x ∷ xs) b = absurd b
  first-least (suc n) p [] b = absurd b
  first-least (suc n) p (x ∷ xs) b = go (first-least n (put F (first_byte F p) p) xs) b
    where
      go : (Before xs (first_differing F n (put F (first_byte F p) p)) → eval F (put F (first_byte F p) p) xs ≡ 0)
          → (x < first_byte F p) ⊎ ((x ≡ first_byte F p) × Before xs (first_differing F n (put F (first_byte F p) p)))
          → eval F p (x ∷ xs) ≡ 0
      go ih (inl m) = sym (eval-put F L x p xs) ∙ ap (λ (q : Poly). eval F q xs) (first_byte-before F p x m)
      go ih (inr m) = ap (λ (y : ℕ). eval F p (y ∷ xs)) m.0 ∙ sym (eval-put F L (first_byte F p) p xs) ∙ ih m.1

-- ---- the highest powers are bounds of the powers

-- a larger bound at each place is a bound too
within-max : (e ds f : List ℕ) (n : ℕ) → ByteList n e → ByteList n ds → Within ds f → Within (max_each e ds) f
within-max [] ds f n h k w = w
within-max (a ∷ e) [] f zero h k w = absurd h
within-max (a ∷ e) [] f (suc n) h k w = absurd k
within-max (a ∷ e) (d ∷ ds) [] n h k w = absurd w
within-max (a ∷ e) (d ∷ ds) (b ∷ f) zero h k w = absurd h
within-max (a ∷ e) (d ∷ ds) (b ∷ f) (suc n) h k w = (omega (arith, w.0), within-max e ds f n h.1 k.1 w.1)

-- the larger of two numbers bounds the first
max-within : (n : ℕ) (e ds : List ℕ) → ByteList n e → ByteList n ds → Within (max_each e ds) e
max-within zero [] [] h k = tt
max-within zero [] (d ∷ ds) h k = absurd k
max-within zero (a ∷ e) ds h k = absurd h
max-within (suc n) [] ds h k = absurd h
max-within (suc n) (a ∷ e) [] h k = absurd k
max-within (suc n) (a ∷ e) (d ∷ ds) h k = (omega arith, max-within n e ds h.1 k.1)

-- the larger of two bytes is a byte
max-bytes : (n : ℕ) (e ds : List ℕ) → ByteList n e → ByteList n ds → ByteList n (max_each e ds)
max-bytes zero [] ds h k = k
max-bytes zero (a ∷ e) ds h k = absurd h
max-bytes (suc n) [] ds h k = absurd h
max-bytes (suc n) (a ∷ e) [] h k = absurd k
max-bytes (suc n) (a ∷ e) (d ∷ ds) h k = (omega (arith, h.0, k.0), max-bytes n e ds h.1 k.1)

-- the highest powers of bytes are bytes
pub highest-bytes : (n : ℕ) (p : Poly) → Powers (ByteList n) p → ByteList n (highest n p)
highest-bytes n [] h = zeros-bytes n
highest-bytes n (term c e ∷ p) h = max-bytes n e (highest n p) h.0 (highest-bytes n p h.1)

-- each term's powers are at most the highest
pub highest-within : (n : ℕ) (p : Poly) → Powers (ByteList n) p → Powers (Within (highest n p)) p
highest-within n [] h = tt
highest-within n (term c e ∷ p) h = (
  max-within n e (highest n p) h.0 (highest-bytes n p h.1),
  powers-map (Within (highest n p)) (Within (max_each e (highest n p)))
      (λ f. within-max e (highest n p) f n h.0 (highest-bytes n p h.1)) p (highest-within n p h.1),
)

-- THEOREM: each chosen byte is at most the highest power of its variable
pub first-highest : (F : Ops) → Laws F → (v n : ℕ) (p : Poly) → v ≤ n → Canon n p → Some p
    → Within (take v (highest n p)) (first_differing F v p)
first-highest F L v n p i h s =
    first-within F L v n (highest n p) p i (highest-bytes n p h.powers) h s (highest-within n p h.powers)
