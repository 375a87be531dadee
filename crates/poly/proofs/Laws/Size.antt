-- A normal form has no more terms than the list it is made of has nonzero coefficients: raw sizes bound reduced sizes
-- ("The term count behind unknown"). Assumes nothing.
use mathlib.Core.Path.{◌≡◌, refl, sym, ap, subst}
use mathlib.Core.List.{List, [], ◌∷◌, ◌++◌}
use Prim.Native.Nat.{ℕ, zero, suc, ◌+◌, ◌*◌, ◌≤◌, zero-le, Ordering}
use native.Mathlib.Omega.{arith}
use native.Mathlib.Nat.{le_refl, suc-mul, add-mul, zero-mul as nat-zero-mul, one-mul as nat-one-mul}
use lib.ListN.{length, length-append, replicate}
use Rattle.field.specs.Laws.{Ops, Laws}
use Rattle.poly.specs.Poly.{term, Poly, order, keep, place, insert, normal, constant, add_poly, scale, mul_raw}
use Rattle.poly.specs.Poly.{mul_poly, square, linear_raw, map_poly}
use Rattle.poly.specs.Size.{one_if, nonzeros, support}
use Rattle.field.proofs.Laws.Algebra.{zero-mul}

-- it is 0 or 1
pub one-most : (c : ℕ) → one_if c ≤ 1
one-most zero = zero-le
one-most (suc c) = le_refl 1

-- a term in front counts where its coefficient is not zero
keep-length : (c : ℕ) (e : List ℕ) (p : Poly) → length (keep c e p) ≡ one_if c + length p
keep-length zero e p = omega arith
keep-length (suc c) e p = omega arith

-- no more coefficients than terms
support-length : (p : Poly) → support p ≤ length p
support-length [] = zero-le
support-length (term c e ∷ p) = omega (arith, one-most c, support-length p)

-- two lists joined
support_append : (p q : Poly) → support (p ++ q) ≡ support p + support q
support_append [] q = omega arith
support_append (term c e ∷ p) q = omega (arith, support_append p q)

-- a constant has a term where it is not zero
support-keep : (c : ℕ) (e : List ℕ) → support (keep c e []) ≡ one_if c
support-keep zero e = refl
support-keep (suc c) e = refl

module _ (F : Ops) where
  open F use {add, mul}

  -- a term placed adds one at most
  place-length : (o : Ordering) (c : ℕ) (e : List ℕ) (d : ℕ) (f : List ℕ) (p r : Poly) → length r ≤ one_if c + length p
      → length (place F o c e d f p r) ≤ one_if c + suc (length p)
  place-length Ordering.lt c e d f p r h = omega (arith, keep-length c e (term d f ∷ p))
  place-length Ordering.eq c e d f p r h = omega (arith, keep-length (add c d) e p, one-most (add c d))
  place-length Ordering.gt c e d f p r h = omega arith

  -- an insertion adds one term at most, and none where its coefficient is zero
  pub insert-length : (c : ℕ) (e : List ℕ) (p : Poly) → length (insert F c e p) ≤ one_if c + length p
  insert-length c e [] = omega (arith, keep-length c e [])
  insert-length c e (term d f ∷ p) = place-length (order e f) c e d f p (insert F c e p) (insert-length c e p)

  -- THEOREM: a normal form has no more terms than the list has nonzero coefficients
  pub normal-length : (p : Poly) → length (normal F p) ≤ support p
  normal-length [] = zero-le
  normal-length (term c e ∷ p) = omega (arith, insert-length c e (normal F p), normal-length p)

  -- the product with a term has as many terms
  pub length-scale : (c : ℕ) (e : List ℕ) (q : Poly) → length (scale F c e q) ≡ length q
  length-scale c e [] = refl
  length-scale c e (term d f ∷ q) = ap suc (length-scale c e q)

  -- the square has as many terms
  pub length-square : (p : Poly) → length (square F p) ≡ length p
  length-square [] = refl
  length-square (term c e ∷ p) = ap suc (length-square p)

  -- the products of all terms
  pub length-mul_raw : (p q : Poly) → length (mul_raw F p q) ≡ length p * length q
  length-mul_raw [] q = sym (nat-zero-mul (length q))
  length-mul_raw (term c e ∷ p) q =
      omega (
        arith,
        length-append (scale F c e q) (mul_raw F p q),
        length-scale c e q,
        length-mul_raw p q,
        suc-mul (length p) (length q),
      )

  -- THEOREM: a sum has at most p + q terms
  pub add-size : (p q : Poly) → length (add_poly F p q) ≤ length p + length q
  add-size p q = omega (arith, normal-length (p ++ q), support-length (p ++ q), length-append p q)

  -- THEOREM: a product has at most p·q terms
  pub mul-size : (p q : Poly) → length (mul_poly F p q) ≤ length p * length q
  mul-size p q = omega (arith, normal-length (mul_raw F p q), support-length (mul_raw F p q), length-mul_raw p q)

module _ (F : Ops) (L : Laws F) where
  open F use {add, mul}

  -- a coefficient that is zero adds no term
  scale-support : (l : ℕ) (e : List ℕ) (q : Poly) → support (scale F l e q) ≤ one_if l * length q
  scale-support zero e [] = zero-le
  scale-support zero e (term d f ∷ q) =
      let z : one_if (mul 0 d) ≡ 0 = ap one_if (zero-mul L.ring d) in
      omega (arith, scale-support zero e q, nat-zero-mul (length q), nat-zero-mul (suc (length q)))
  scale-support (suc l) e q =
      omega (arith, support-length (scale F (suc l) e q), length-scale F (suc l) e q, nat-one-mul (length q))

  -- a map adds p terms for each coefficient that is not zero
  linear-support : (ls : List ℕ) (p : Poly) → support (linear_raw F ls p) ≤ nonzeros ls * length p
  linear-support [] p = zero-le
  linear-support (l ∷ ls) p =
      let i : support (linear_raw F ls (square F p)) ≤ nonzeros ls * length p =
      subst (λ (k : ℕ). support (linear_raw F ls (square F p)) ≤ nonzeros ls * k) (length-square F p)
      (linear-support ls (square F p)) in
      omega (
        arith,
        support_append (scale F l [] p) (linear_raw F ls (square F p)),
        scale-support l [] p,
        add-mul (one_if l) (nonzeros ls) (length p),
      )

  -- THEOREM: a map's image has at most n·p terms, and one more where its constant is not zero
  pub map-size : (n c : ℕ) (ls : List ℕ) (p : Poly) → length (map_poly F n c ls p) ≤ nonzeros ls * length p + one_if c
  map-size n c ls p =
      omega (
        arith,
        normal-length F (constant n c ++ linear_raw F ls p),
        support_append (constant n c) (linear_raw F ls p),
        support-keep c (replicate n 0),
        linear-support ls p,
      )
