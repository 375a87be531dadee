-- Terms that keep their number of powers: a variable that a byte was put in for has the power 0 and stays. So code may
-- keep terms of one length; what it finds is what the definition finds that leaves the variable out. Assumes nothing.
use mathlib.Core.Path.{◌≡◌, refl, ap, ap₂, ◌∙◌}
use mathlib.Core.List.{List, [], ◌∷◌}
use Prim.Native.Nat.compare
use Prim.Native.Nat.{ℕ, zero, suc, Ordering}
use lib.ListN.{get_or, set}
use Rattle.field.specs.Field.{power}
use Rattle.field.specs.Laws.{Ops}
use Rattle.poly.specs.Poly.{term, Poly, or_else, order, keep, place, insert, normal}
use Rattle.poly.specs.First.{put_raw, put, put_slot_raw, put_slot}
use Rattle.poly.specs.Canon.{ByteList, Powers}
use Rattle.poly.proofs.Laws.Order.{or_else_eq}

-- j zeros in front of powers
abbrev pub zeros : ℕ → List ℕ → List ℕ
zeros zero e = e
zeros (suc j) e = 0 ∷ zeros j e

-- j zeros in front of the powers of each term
abbrev pub lead : ℕ → Poly → Poly
lead j [] = []
lead j (term c e ∷ p) = term c (zeros j e) ∷ lead j p

-- no zeros in front
pub lead-none : (p : Poly) → lead 0 p ≡ p
lead-none [] = refl
lead-none (term c e ∷ p) = ap {B = Poly} (λ q. term c e ∷ q) (lead-none p)

-- at least one power
abbrev pub Nonempty : List ℕ → Type 0
Nonempty [] = ⊥
Nonempty (k ∷ e) = Unit {0}

-- n + 1 powers are at least one
pub bytes_nonempty : (n : ℕ) (p : Poly) → Powers (ByteList (suc n)) p → Powers Nonempty p
bytes_nonempty n [] h = tt
bytes_nonempty n (term c [] ∷ p) h = absurd h.0
bytes_nonempty n (term c (k ∷ e) ∷ p) h = (tt, bytes_nonempty n p h.1)

-- ---- the order, and so the normal form, does not see them

-- the order does not see zeros in front
pub order-zeros : (j : ℕ) (e f : List ℕ) → order (zeros j e) (zeros j f) ≡ order e f
order-zeros zero e f = refl
order-zeros (suc j) e f =
    ap (or_else (order (zeros j e) (zeros j f))) compare.zero-zero ∙ or_else_eq (order (zeros j e) (zeros j f))
    ∙ order-zeros j e f

-- nor does a term in front
keep-lead : (j c : ℕ) (e : List ℕ) (p : Poly) → keep c (zeros j e) (lead j p) ≡ lead j (keep c e p)
keep-lead j zero e p = refl
keep-lead j (suc c) e p = refl

module _ (F : Ops) where
  open F use {add, mul}

  -- nor the place of a term
  place-lead : (j : ℕ) (o : Ordering) (c : ℕ) (e : List ℕ) (d : ℕ) (f : List ℕ) (p r r' : Poly) → r' ≡ lead j r
      → place F o c (zeros j e) d (zeros j f) (lead j p) r' ≡ lead j (place F o c e d f p r)
  place-lead j Ordering.lt c e d f p r r' h = keep-lead j c e (term d f ∷ p)
  place-lead j Ordering.eq c e d f p r r' h = keep-lead j (add c d) e p
  place-lead j Ordering.gt c e d f p r r' h = ap {B = Poly} (λ q. term d (zeros j f) ∷ q) h

  -- nor an insertion
  insert-lead : (j c : ℕ) (e : List ℕ) (p : Poly) → insert F c (zeros j e) (lead j p) ≡ lead j (insert F c e p)
  insert-lead j c e [] = keep-lead j c e []
  insert-lead j c e (term d f ∷ p) =
      ap (λ (o : Ordering). place F o c (zeros j e) d (zeros j f) (lead j p) (insert F c (zeros j e) (lead j p)))
      (order-zeros j e f)
      ∙ place-lead j (order e f) c e d f p (insert F c e p) (insert F c (zeros j e) (lead j p)) (insert-lead j c e p)

  -- nor the normal form
  pub normal-lead : (j : ℕ) (p : Poly) → normal F (lead j p) ≡ lead j (normal F p)
  normal-lead j [] = refl
  normal-lead j (term c e ∷ p) = ap (insert F c (zeros j e)) (normal-lead j p) ∙ insert-lead j c e (normal F p)

  -- ---- a byte put in

  -- the power behind j zeros
  get_d_zeros : (j k : ℕ) (e : List ℕ) → get_or (zeros j (k ∷ e)) j 0 ≡ k
  get_d_zeros zero k e = refl
  get_d_zeros (suc j) k e = get_d_zeros j k e

  -- the power behind j zeros made zero
  set-zeros : (j k : ℕ) (e : List ℕ) → set (zeros j (k ∷ e)) j 0 ≡ zeros (suc j) e
  set-zeros zero k e = refl
  set-zeros (suc j) k e = ap {B = List ℕ} (λ f. 0 ∷ f) (set-zeros j k e)

  -- a byte put in for variable j, behind j zeros, before the result is made normal
  put_slot_raw-lead : (j a : ℕ) (p : Poly) → Powers Nonempty p → put_slot_raw F j a (lead j p) ≡ lead (suc j) (put_raw F a p)
  put_slot_raw-lead j a [] h = refl
  put_slot_raw-lead j a (term c [] ∷ p) h = absurd h.0
  put_slot_raw-lead j a (term c (k ∷ e) ∷ p) h =
      ap₂ {C = Poly} ◌∷◌ (ap₂ (λ (x : ℕ) (f : List ℕ). term (mul c (power mul a x)) f) (get_d_zeros j k e)
      (set-zeros j k e))
      (put_slot_raw-lead j a p h.1)

  -- THEOREM: to put a byte in for variable j, after those before it, is to put it in for the first that is left
  pub put_slot-lead : (j a : ℕ) (p : Poly) → Powers Nonempty p → put_slot F j a (lead j p) ≡ lead (suc j) (put F a p)
  put_slot-lead j a p h = ap (normal F) (put_slot_raw-lead j a p h) ∙ normal-lead (suc j) (put_raw F a p)
