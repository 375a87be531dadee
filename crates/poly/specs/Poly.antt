-- Reduced polynomials in n variables over a field of bytes ("Reduced polynomials"): terms, their order, normal form,
-- sum, product and the application of a map. An operation is a plain list of terms made normal; nothing here says how
-- the field multiplies. Assumes nothing.
use Prim.Native.Nat.{ℕ, zero, suc, ◌+◌, ◌-◌, ◌%◌, compare, Ordering}
use Rattle.std.specs.Prelude.{List, [], ◌∷◌, ◌++◌, Bool, true, false, ltb, replicate}
use Rattle.field.specs.Laws.{Ops}

-- a coefficient, and the power of each variable in order
pub data Term : Type 0 where
  term : ℕ → List ℕ → Term

-- a list of terms; a reduced polynomial is one that is `Canon`
abbrev pub Poly : Type 0
Poly = List Term

-- ---- powers

-- a where the test holds, else b
abbrev pub pick : Bool → ℕ → ℕ → ℕ
pick true a b = a
pick false a b = b

-- a power brought to 0 to 255: above 255 it loses 255, again if needed, so 255 stays and 256 becomes 1
abbrev pub reduce : ℕ → ℕ
reduce e = pick (ltb 255 e) (suc ((e - 256) % 255)) e

-- the powers of a product of two terms; what is past the end of either list counts as 0
abbrev pub add_pows : List ℕ → List ℕ → List ℕ
add_pows [] f = f
add_pows (a ∷ e) [] = a ∷ e
add_pows (a ∷ e) (b ∷ f) = reduce (a + b) ∷ add_pows e f

-- ---- the order of terms

-- the first answer, or the second where the first is `eq`
abbrev pub or_else : Ordering → Ordering → Ordering
or_else Ordering.lt o = Ordering.lt
or_else Ordering.eq o = o
or_else Ordering.gt o = Ordering.gt

-- which of two lists of powers comes first: the last variable is compared first, the first variable last
abbrev pub order : List ℕ → List ℕ → Ordering
order [] [] = Ordering.eq
order [] (b ∷ f) = Ordering.lt
order (a ∷ e) [] = Ordering.gt
order (a ∷ e) (b ∷ f) = or_else (order e f) (compare a b)

-- ---- constants and variables

-- a term in front, unless its coefficient is zero
abbrev pub keep : ℕ → List ℕ → Poly → Poly
keep zero e p = p
keep (suc c) e p = term (suc c) e ∷ p

-- no term where l is zero
abbrev pub unless_zero : ℕ → Poly → Poly
unless_zero zero p = []
unless_zero (suc l) p = p

-- the byte c as a polynomial in n variables: no term where it is zero
abbrev pub constant : ℕ → ℕ → Poly
constant n c = keep c (replicate n 0) []

-- n powers: 1 for variable i, counted from 0, and 0 for every other
abbrev pub unit : ℕ → ℕ → List ℕ
unit zero i = []
unit (suc n) zero = 1 ∷ replicate n 0
unit (suc n) (suc i) = 0 ∷ unit n i

-- variable i of n as a polynomial
abbrev pub variable : ℕ → ℕ → Poly
variable n i = term 1 (unit n i) ∷ []

-- the sum of the variables i, i + 1, .., k of them
abbrev pub units : ℕ → ℕ → ℕ → Poly
units n i zero = []
units n i (suc k) = term 1 (unit n i) ∷ units n (suc i) k

module _ (F : Ops) where
  open F use {add, mul}

  -- ---- normal form

  -- where the term c, e goes by its order to the head d, f: before it, into it, or further down, which gives r
  abbrev pub place : Ordering → ℕ → List ℕ → ℕ → List ℕ → Poly → Poly → Poly
  place Ordering.lt c e d f p r = keep c e (term d f ∷ p)
  place Ordering.eq c e d f p r = keep (add c d) e p
  place Ordering.gt c e d f p r = term d f ∷ r

  -- a term inserted among sorted terms: equal powers are joined, and a coefficient of zero goes
  abbrev pub insert : ℕ → List ℕ → Poly → Poly
  insert c e [] = keep c e []
  insert c e (term d f ∷ p) = let r = insert c e p in place (order e f) c e d f p r

  -- the terms of a list inserted among those of another one by one, the last first
  abbrev pub into : Poly → Poly → Poly
  into [] q = q
  into (term c e ∷ p) q = insert c e (into p q)

  -- a list of terms sorted, equal powers joined, zeros dropped
  abbrev pub normal : Poly → Poly
  normal [] = []
  normal (term c e ∷ p) = insert c e (normal p)

  -- ---- the operations; `..Raw` is the list of terms before it is made normal

  -- the sum
  abbrev pub add_poly : Poly → Poly → Poly
  add_poly p q = normal (p ++ q)

  -- each term of a list times the term c, e
  abbrev pub scale : ℕ → List ℕ → Poly → Poly
  scale c e [] = []
  scale c e (term d f ∷ q) = term (mul c d) (add_pows e f) ∷ scale c e q

  -- each term of the one times each of the other
  abbrev pub mul_raw : Poly → Poly → Poly
  mul_raw [] q = []
  mul_raw (term c e ∷ p) q = scale c e q ++ mul_raw p q

  -- the product
  abbrev pub mul_poly : Poly → Poly → Poly
  mul_poly p q = normal (mul_raw p q)

  -- the square, term by term, since squaring is additive
  abbrev pub square : Poly → Poly
  square [] = []
  square (term c e ∷ p) = term (mul c c) (add_pows e e) ∷ square p

  -- l0·p + l1·p² + l2·p⁴ + ..
  abbrev pub linear_raw : List ℕ → Poly → Poly
  linear_raw [] p = []
  linear_raw (l ∷ ls) p = scale l [] p ++ linear_raw ls (square p)

  -- the map with the constant c and the coefficients ls, applied to a polynomial in n variables
  abbrev pub map_poly : ℕ → ℕ → List ℕ → Poly → Poly
  map_poly n c ls p = normal (constant n c ++ linear_raw ls p)
