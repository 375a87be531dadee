-- The reduced polynomials in n variables ("Reduced polynomials"), one list for each: terms that strictly ascend,
-- coefficients that are bytes other than zero, n powers of at most 255. Assumes nothing.
use Prim.Native.Nat.{Ordering}
use Rattle.std.specs.Prelude.{ℕ, zero, suc, ◌≤◌, ◌<◌, ◌≡◌, ◌⊎◌, List, [], ◌∷◌, replicate}
use Rattle.poly.specs.Poly.{term, Poly, order}

-- numbers that are at most their bounds, one bound for each
abbrev pub Within : List ℕ → List ℕ → Type 0
Within [] [] = Unit {0}
Within [] (a ∷ e) = ⊥
Within (d ∷ ds) [] = ⊥
Within (d ∷ ds) (a ∷ e) = (a ≤ d) × Within ds e

-- n bytes
abbrev pub ByteList : ℕ → List ℕ → Type 0
ByteList n e = Within (replicate n 255) e

-- v powers of any size and then k zeros: the last k of v + k variables are not in use
abbrev pub Spare : ℕ → ℕ → List ℕ → Type 0
Spare zero k e = e ≡ replicate k 0
Spare (suc v) k [] = ⊥
Spare (suc v) k (a ∷ e) = Spare v k e

-- each term's powers have P
abbrev pub Powers : (List ℕ → Type 0) → Poly → Type 0
Powers P [] = Unit {0}
Powers P (term c e ∷ p) = P e × Powers P p

-- each term's coefficient has P
abbrev pub Coefs : (ℕ → Type 0) → Poly → Type 0
Coefs P [] = Unit {0}
Coefs P (term c e ∷ p) = P c × Coefs P p

-- the powers e come before the first term of the list
abbrev pub Above : List ℕ → Poly → Type 0
Above e [] = Unit {0}
Above e (term d f ∷ p) = order e f ≡ Ordering.lt

-- the terms strictly ascend
abbrev pub Sorted : Poly → Type 0
Sorted [] = Unit {0}
Sorted (term c e ∷ p) = Above e p × Sorted p

-- a byte
abbrev pub Byte : ℕ → Type 0
Byte c = c < 256

-- a number other than zero
abbrev pub Nonzero : ℕ → Type 0
Nonzero c = 0 < c

-- a byte other than zero
abbrev pub NonzeroByte : ℕ → Type 0
NonzeroByte c = (0 < c) × (c < 256)

-- the list has a term
abbrev pub Some : Poly → Type 0
Some [] = ⊥
Some (t ∷ p) = Unit {0}

-- a reduced polynomial in n variables
pub record Canon (n : ℕ) (p : Poly) : Type 0 where
  pub sorted : Sorted p
  pub coefs : Coefs NonzeroByte p
  pub powers : Powers (ByteList n) p

-- a list of terms that need not be sorted, and may hold zeros
pub record Raw (n : ℕ) (p : Poly) : Type 0 where
  pub coefs : Coefs Byte p
  pub powers : Powers (ByteList n) p

-- a list of bytes comes before another in dictionary order
abbrev pub Before : List ℕ → List ℕ → Type 0
Before [] ys = ⊥
Before (x ∷ xs) [] = ⊥
Before (x ∷ xs) (y ∷ ys) = (x < y) ⊎ ((x ≡ y) × Before xs ys)
