-- Sums of lists of terms: order and grouping do not matter, a part may be made normal first, and to insert terms one by
-- one is to add them. Assumes nothing.
use mathlib.Core.Path.{◌≡◌, refl, sym, ap, ◌∙◌}
use mathlib.Core.List.{List, [], ◌∷◌, ◌++◌}
use Prim.Native.Nat.{ℕ, ◌+◌, ◌≤◌}
use native.Mathlib.Omega.{arith}
use lib.ListN.{length}
use Rattle.field.specs.Laws.{Ops, Laws}
use Rattle.poly.specs.Poly.{term, Poly, order, insert, into, normal, add_poly}
use Rattle.poly.specs.Value.{only, coef}
use Rattle.poly.specs.Canon.{ByteList, Byte, Canon, Raw, Sorted}
use Rattle.poly.proofs.Laws.Normal.{insert-sorted}
use Rattle.poly.proofs.Laws.Size.{insert-length, one-most}
use Rattle.poly.proofs.Laws.Normal.{powers_append, coefs_append, total_append, coef-normal, same-normal}
use Rattle.poly.proofs.Laws.Normal.{canon-normal, canon-raw, normal-canon}

-- two lists of terms of bytes joined
pub raw_append : {n : ℕ} (p q : Poly) → Raw n p → Raw n q → Raw n (p ++ q)
raw_append {n} p q h k = record {
  coefs = coefs_append Byte p q h.coefs k.coefs;
  powers = powers_append (ByteList n) p q h.powers k.powers;
}

module _ (F : Ops) (L : Laws F) where
  open F use {add, mul}
  open L.ring use {add_comm, add_assoc}

  -- a normal form is a list of terms of bytes
  pub raw-normal : {n : ℕ} (p : Poly) → Raw n p → Raw n (normal F p)
  raw-normal p h = canon-raw (canon-normal F L p h)

  -- the coefficients of two lists joined are added
  pub coef_append : (p q : Poly) (x : List ℕ) → coef F (p ++ q) x ≡ add (coef F p x) (coef F q x)
  coef_append p q x = total_append F L (λ d f. only (order f x) d) p q

  -- THEOREM: the order of two summands does not matter
  pub sum_comm : {n : ℕ} (p q : Poly) → Raw n p → Raw n q → add_poly F p q ≡ add_poly F q p
  sum_comm p q h k =
      same-normal F L (p ++ q) (q ++ p) (raw_append p q h k) (raw_append q p k h)
      (λ x. coef_append p q x ∙ add_comm (coef F p x) (coef F q x) ∙ sym (coef_append q p x))

  -- THEOREM: the left summand may be made normal first
  pub sum-normal-left : {n : ℕ} (p q : Poly) → Raw n p → Raw n q → add_poly F (normal F p) q ≡ add_poly F p q
  sum-normal-left p q h k =
      same-normal F L (normal F p ++ q) (p ++ q) (raw_append (normal F p) q (raw-normal p h) k) (raw_append p q h k)
      (λ x. coef_append (normal F p) q x ∙ ap (λ (y : ℕ). add y (coef F q x)) (coef-normal F L p x)
      ∙ sym (coef_append p q x))

  -- THEOREM: the right summand may be made normal first
  pub sum-normal-right : {n : ℕ} (p q : Poly) → Raw n p → Raw n q → add_poly F p (normal F q) ≡ add_poly F p q
  sum-normal-right p q h k = sum_comm p (normal F q) h (raw-normal q k) ∙ sum-normal-left q p k h ∙ sum_comm q p k h

  -- THEOREM: the grouping of three summands does not matter
  pub sum-assoc : {n : ℕ} (p q r : Poly) → Raw n p → Raw n q → Raw n r
      → add_poly F (add_poly F p q) r ≡ add_poly F p (add_poly F q r)
  sum-assoc p q r h k l =
      same-normal F L (add_poly F p q ++ r) (p ++ add_poly F q r)
      (raw_append (add_poly F p q) r (raw-normal (p ++ q) (raw_append p q h k)) l)
      (raw_append p (add_poly F q r) h (raw-normal (q ++ r) (raw_append q r k l)))
      (λ x.
      coef_append (add_poly F p q) r x
      ∙ ap (λ (y : ℕ). add y (coef F r x)) (coef-normal F L (p ++ q) x ∙ coef_append p q x)
      ∙ add_assoc (coef F p x) (coef F q x) (coef F r x)
      ∙ ap (add (coef F p x)) (sym (coef-normal F L (q ++ r) x ∙ coef_append q r x))
      ∙ sym (coef_append p (add_poly F q r) x))

  -- nothing added to a reduced polynomial
  pub sum-none_left : {n : ℕ} (p : Poly) → Canon n p → add_poly F [] p ≡ p
  sum-none_left p h = normal-canon F p h.sorted h.coefs

-- ---- terms inserted one by one

module _ (F : Ops) where
  -- terms inserted leave the terms ascending
  pub into-sorted : (p q : Poly) → Sorted q → Sorted (into F p q)
  into-sorted [] q s = s
  into-sorted (term c e ∷ p) q s = insert-sorted F c e (into F p q) (into-sorted p q s)

  -- two lists inserted: the second, and then the first
  pub into_append : (p q r : Poly) → into F (p ++ q) r ≡ into F p (into F q r)
  into_append [] q r = refl
  into_append (term c e ∷ p) q r = ap (insert F c e) (into_append p q r)

  -- terms inserted where none stood: the normal form
  pub into-none : (p : Poly) → into F p [] ≡ normal F p
  into-none [] = refl
  into-none (term c e ∷ p) = ap (insert F c e) (into-none p)

  -- no more terms than both lists have
  pub into-length : (p q : Poly) → length (into F p q) ≤ length p + length q
  into-length [] q = omega arith
  into-length (term c e ∷ p) q = omega (arith, insert-length F c e (into F p q), one-most c, into-length p q)

  -- the normal form of two lists joined: the first list's terms inserted into the second's normal form
  pub normal-into : (p q : Poly) → normal F (p ++ q) ≡ into F p (normal F q)
  normal-into [] q = refl
  normal-into (term c e ∷ p) q = ap (insert F c e) (normal-into p q)

  -- THEOREM: to insert one by one is to add
  pub add-into : {n : ℕ} (p q : Poly) → Canon n q → add_poly F p q ≡ into F p q
  add-into p q h = normal-into p q ∙ ap (into F p) (normal-canon F q h.sorted h.coefs)
