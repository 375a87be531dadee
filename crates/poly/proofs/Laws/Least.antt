-- The first differing bytes are the only ones at which the value is not zero while it is zero before them; and
-- the count of bytes tried is bounded by the powers. Of two lists of one length one comes first, or they are the
-- same. Assumes nothing.
use mathlib.Core.Path.{◌≡◌, refl, sym, ap, ap₂}
use mathlib.Core.Logic.{◌≢◌, ◌⊎◌, inl, inr}
use mathlib.Core.List.{List, [], ◌∷◌}
use Prim.Native.Nat.{ℕ, zero, suc, ◌+◌, ◌≤◌, ◌<◌}
use native.Mathlib.Omega.{arith}
use native.Mathlib.Nat.{le_refl}
use native.Mathlib.Decide.{dec_le}
use lib.ListN.{length, take}
use Rattle.field.specs.Laws.{Ops, Laws}
use Rattle.poly.specs.Poly.{Poly}
use Rattle.poly.specs.Value.{eval}
use Rattle.poly.specs.First.{first_differing, highest, sum, tried, Differing}
use Rattle.poly.specs.Canon.{Within, ByteList, Spare, Powers, Canon, Some, Before}
use Rattle.poly.proofs.Laws.Reduced.{all-used}
use Rattle.poly.proofs.Laws.First.{first-bytes, first-differs, first-least, first-highest}

-- ---- dictionary order: of two lists of one length one comes first, or they are one

-- where a list stands to another in dictionary order
data Place (xs ys : List ℕ) : Type 0 where
  before : Before xs ys → Place xs ys
  same : xs ≡ ys → Place xs ys
  after : Before ys xs → Place xs ys

-- one of two numbers is smaller, or they are the same
heads : (x y : ℕ) → Dec (suc x ≤ y) → Dec (suc y ≤ x) → (x < y) ⊎ ((x ≡ y) ⊎ (y < x))
heads x y (yes h) k = inl h
heads x y (no h) (yes k) = inr (inr k)
heads x y (no h) (no k) = inr (inl (omega arith))

-- one number more in front of each list
step : (x y : ℕ) (xs ys : List ℕ) → (x < y) ⊎ ((x ≡ y) ⊎ (y < x)) → Place xs ys → Place (x ∷ xs) (y ∷ ys)
step x y xs ys (inl h) p = before (inl h)
step x y xs ys (inr (inr h)) p = after (inl h)
step x y xs ys (inr (inl h)) (before b) = before (inr (h, b))
step x y xs ys (inr (inl h)) (same e) = same (ap₂ ◌∷◌ h e)
step x y xs ys (inr (inl h)) (after b) = after (inr (sym h, b))

-- of two lists of n bytes one comes first, or they are the same
place : (n : ℕ) (xs ys : List ℕ) → ByteList n xs → ByteList n ys → Place xs ys
place zero [] [] h k = same refl
place zero [] (y ∷ ys) h k = absurd k
place zero (x ∷ xs) ys h k = absurd h
place (suc n) [] ys h k = absurd h
place (suc n) (x ∷ xs) [] h k = absurd k
place (suc n) (x ∷ xs) (y ∷ ys) h k =
    step x y xs ys (heads x y (dec_le (suc x) y) (dec_le (suc y) x)) (place n xs ys h.1 k.1)

-- THEOREM: no second list of bytes is first; a term has n powers, of which the first v are in use
pub first-only : (F : Ops) → Laws F → (v k n : ℕ) (p : Poly) (xs : List ℕ) → v ≤ n → Canon n p → Powers (Spare v k) p
    → Some p
    → ByteList v xs → eval F p xs ≢ 0 → ((ys : List ℕ) → ByteList v ys → Before ys xs → eval F p ys ≡ 0)
    → xs ≡ first_differing F v p
first-only F L v k n p xs i h u s b d z = go (place v xs (first_differing F v p) b (first-bytes F L v n p i h s))
  where
    go : Place xs (first_differing F v p) → xs ≡ first_differing F v p
    go (before l) = absurd (d (first-least F L v p xs l))
    go (same e) = e
    go (after l) = absurd (first-differs F L v k n p h u s (z (first_differing F v p) (first-bytes F L v n p i h s) l))

-- THEOREM: at the first differing bytes of a reduced polynomial with a term the value is not zero, and at every list
-- before them it is zero
pub first_differing_lem : (F : Ops) → Laws F → (n : ℕ) (p : Poly) → Canon n p → Some p
    → Differing F n p (first_differing F n p)
first_differing_lem F L n p h s = record {
  bytes = first-bytes F L n n p (le_refl n) h s;
  differ = first-differs F L n 0 n p h (all-used n p h) s;
  least = λ ys b l. first-least F L n p ys l;
}

-- THEOREM: no second list of bytes is first
pub first_unique : (F : Ops) → Laws F → (n : ℕ) (p : Poly) (xs : List ℕ) → Canon n p → Some p → Differing F n p xs
    → xs ≡ first_differing F n p
first_unique F L n p xs h s d =
    first-only F L n 0 n p xs (le_refl n) h (all-used n p h) s d.bytes d.differ d.least

-- ---- the count

-- numbers within their bounds have a sum within the bounds' sum
sum-within : (ds xs : List ℕ) → Within ds xs → sum xs ≤ sum ds
sum-within [] [] h = omega arith
sum-within [] (x ∷ xs) h = absurd h
sum-within (d ∷ ds) [] h = absurd h
sum-within (d ∷ ds) (x ∷ xs) h = omega (arith, h.0, sum-within ds xs h.1)

-- there is a byte for each variable
pub length-first : (F : Ops) (v : ℕ) (p : Poly) → length (first_differing F v p) ≡ v
length-first F zero p = refl
length-first F (suc v) p = ap suc (length-first F v _)

-- THEOREM: the bytes tried are at most the highest powers together, and one more for each variable
pub tried-bound : (F : Ops) → Laws F → (v n : ℕ) (p : Poly) → v ≤ n → Canon n p → Some p
    → tried (first_differing F v p) ≤ sum (take v (highest n p)) + v
tried-bound F L v n p i h s =
    omega (
      arith,
      sum-within (take v (highest n p)) (first_differing F v p) (first-highest F L v n p i h s),
      length-first F v p,
    )
