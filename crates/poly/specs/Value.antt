-- The value of a polynomial at a list of bytes, one for each variable in order. A value and a coefficient are two sums
-- over the terms, so that each law of sums is stated once. Assumes nothing.
use Prim.Native.Nat.{ℕ, Ordering}
use Rattle.std.specs.Prelude.{List, [], ◌∷◌}
use Rattle.field.specs.Field.{power}
use Rattle.field.specs.Laws.{Ops}
use Rattle.poly.specs.Poly.{term, Poly, order}

-- c where powers compare as equal, else 0
abbrev pub only : Ordering → ℕ → ℕ
only Ordering.lt c = 0
only Ordering.eq c = c
only Ordering.gt c = 0

module _ (F : Ops) where
  open F use {add, mul}

  -- the sum, over the terms, of a weight
  abbrev pub total : (ℕ → List ℕ → ℕ) → Poly → ℕ
  total w [] = 0
  total w (term c e ∷ p) = add (w c e) (total w p)

  -- the coefficient at the powers x
  abbrev pub coef : Poly → List ℕ → ℕ
  coef p x = total (λ c e. only (order e x) c) p

  -- the product of the variables' powers; what is past the end of either list counts as 1
  abbrev pub mono : List ℕ → List ℕ → ℕ
  mono [] xs = 1
  mono (k ∷ e) [] = 1
  mono (k ∷ e) (x ∷ xs) = mul (power mul x k) (mono e xs)

  -- the value at the bytes xs
  abbrev pub eval : Poly → List ℕ → ℕ
  eval p xs = total (λ c e. mul c (mono e xs)) p

  -- l0·x + l1·x² + l2·x⁴ + ..
  abbrev pub linear : List ℕ → ℕ → ℕ
  linear [] x = 0
  linear (l ∷ ls) x = add (mul l x) (linear ls (mul x x))

  -- the value at a byte of the map with the constant c and the coefficients ls
  abbrev pub map_byte : ℕ → List ℕ → ℕ → ℕ
  map_byte c ls x = add c (linear ls x)
