-- A byte put in for a variable, and the first differing bytes ("What judge answers"): for each variable in order the
-- smallest byte for which the polynomial still has a term when it is put in. Assumes nothing.
use Rattle.std.specs.Prelude.{ℕ, zero, suc, ◌+◌, max, ◌≡◌, ◌≢◌, List, [], ◌∷◌, length, replicate, get_or, set}
use Rattle.field.specs.Field.{power}
use Rattle.field.specs.Laws.{Ops}
use Rattle.poly.specs.Poly.{term, Poly, normal}
use Rattle.poly.specs.Value.{eval}
use Rattle.poly.specs.Canon.{ByteList, Before}

-- a where there is a term, else b
abbrev pub unless_none : Poly → ℕ → ℕ → ℕ
unless_none [] a b = b
unless_none (t ∷ p) a b = a

-- the smallest number from a on, of k, at which f has a term; a + k where there is none
abbrev pub seek : ℕ → ℕ → (ℕ → Poly) → ℕ
seek zero a f = a
seek (suc k) a f = let b = seek k (suc a) f in unless_none (f a) a b

module _ (F : Ops) where
  open F use {mul}

  -- ---- a byte put in for the first variable, which goes

  -- each term times the byte's power, without the first variable
  abbrev pub put_raw : ℕ → Poly → Poly
  put_raw a [] = []
  put_raw a (term c [] ∷ p) = term c [] ∷ put_raw a p
  put_raw a (term c (k ∷ e) ∷ p) = term (mul c (power mul a k)) e ∷ put_raw a p

  -- the byte a put in for the first variable
  abbrev pub put : ℕ → Poly → Poly
  put a p = normal F (put_raw a p)

  -- the smallest byte for which the polynomial still has a term when it is put in for the first variable; 256 if none
  unfoldable pub first_byte : Poly → ℕ
  first_byte p = seek 256 0 (λ a. put a p)

  -- the first differing bytes, for v variables in order
  abbrev pub first_differing : ℕ → Poly → List ℕ
  first_differing zero p = []
  first_differing (suc v) p = let a = first_byte p in a ∷ first_differing v (put a p)

  -- ---- a byte put in for variable i, whose power becomes 0: a term keeps its number of powers

  -- each term times the byte's power, with the power 0 of variable i
  abbrev pub put_slot_raw : ℕ → ℕ → Poly → Poly
  put_slot_raw i a [] = []
  put_slot_raw i a (term c e ∷ p) = term (mul c (power mul a (get_or e i 0))) (set e i 0) ∷ put_slot_raw i a p

  -- the byte a put in for variable i
  abbrev pub put_slot : ℕ → ℕ → Poly → Poly
  put_slot i a p = normal F (put_slot_raw i a p)

-- ---- the highest powers, and the bytes tried

-- the larger of two numbers at each place
abbrev pub max_each : List ℕ → List ℕ → List ℕ
max_each [] f = f
max_each (a ∷ e) [] = a ∷ e
max_each (a ∷ e) (b ∷ f) = max a b ∷ max_each e f

-- the highest power of each of n variables
abbrev pub highest : ℕ → Poly → List ℕ
highest n [] = replicate n 0
highest n (term c e ∷ p) = max_each e (highest n p)

-- the sum of a list of numbers
abbrev pub sum : List ℕ → ℕ
sum [] = 0
sum (b ∷ bs) = b + sum bs

-- the bytes tried until these were found: their sum plus their number
abbrev pub tried : List ℕ → ℕ
tried bs = sum bs + length bs

-- ---- what the first differing bytes are

-- n bytes at which the value of p is not zero, while it is zero at every list before them in dictionary order
pub record Differing (F : Ops) (n : ℕ) (p : Poly) (xs : List ℕ) : Type 0 where
  pub bytes : ByteList n xs
  pub differ : eval F p xs ≢ 0
  pub least : (ys : List ℕ) → ByteList n ys → Before ys xs → eval F p ys ≡ 0
