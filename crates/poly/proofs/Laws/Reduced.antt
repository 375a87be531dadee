-- Each operation on reduced polynomials gives a reduced polynomial: what holds of all powers and is kept by a product
-- of terms holds of every result. Assumes nothing.
use mathlib.Core.Path.{◌≡◌, refl, sym, ap, subst₂}
use mathlib.Core.List.{List, [], ◌∷◌, ◌++◌}
use Prim.Native.Nat.{ℕ, zero, suc, ◌+◌, ◌<◌, zero-le}
use native.Mathlib.Omega.{arith}
use lib.ListN.{replicate}
use Rattle.field.specs.Field.{power}
use Rattle.field.specs.Laws.{Ops, Laws}
use Rattle.poly.specs.Poly.{term, Poly, add_pows, constant, unit, variable, add_poly, scale, mul_raw}
use Rattle.poly.specs.Poly.{mul_poly, square, linear_raw, map_poly}
use Rattle.poly.specs.First.{put_raw, put}
use Rattle.poly.specs.Canon.{Within, ByteList, Spare, Powers, Coefs, Byte, Canon}
use Rattle.poly.proofs.Laws.Power.{reduce-byte}
use Rattle.poly.proofs.Laws.Normal.{powers_append, powers-map, coefs_append, canon-raw, canon-normal}
use Rattle.poly.proofs.Laws.Normal.{normal-powers}

-- ---- powers stay bytes

-- the powers of a product are bytes
pub add_pows-bytes : (n : ℕ) (e f : List ℕ) → ByteList n e → ByteList n f → ByteList n (add_pows e f)
add_pows-bytes zero [] f h k = k
add_pows-bytes zero (a ∷ e) f h k = absurd h
add_pows-bytes (suc n) [] f h k = absurd h
add_pows-bytes (suc n) (a ∷ e) [] h k = absurd k
add_pows-bytes (suc n) (a ∷ e) (b ∷ f) h k =
    (reduce-byte (a + b), add_pows-bytes n e f h.1 k.1)

-- zeros are bytes
pub zeros-bytes : (n : ℕ) → ByteList n (replicate n 0)
zeros-bytes zero = tt
zeros-bytes (suc n) = (zero-le, zeros-bytes n)

-- zeros and zeros are zeros
zeros-add : (k : ℕ) → add_pows (replicate k 0) (replicate k 0) ≡ replicate k 0
zeros-add zero = refl
zeros-add (suc k) = ap {B = List ℕ} (λ e. 0 ∷ e) (zeros-add k)

-- the powers of a constant are bytes
constant-powers : (n c : ℕ) → Powers (ByteList n) (constant n c)
constant-powers n zero = tt
constant-powers n (suc c) = (zeros-bytes n, tt)

-- the coefficient of a constant is a byte
constant-coefs : (n c : ℕ) → c < 256 → Coefs Byte (constant n c)
constant-coefs n zero h = tt
constant-coefs n (suc c) h = (h, tt)

-- variables that are not in use in two terms are not in use in their product
pub add_pows-spare : (v k : ℕ) (e f : List ℕ) → Spare v k e → Spare v k f → Spare v k (add_pows e f)
add_pows-spare zero k e f h d = subst₂ (λ (x y : List ℕ). add_pows x y ≡ replicate k 0) (sym h) (sym d) (zeros-add k)
add_pows-spare (suc v) k [] f h d = absurd h
add_pows-spare (suc v) k (a ∷ e) [] h d = absurd d
add_pows-spare (suc v) k (a ∷ e) (b ∷ f) h d = add_pows-spare v k e f h d

-- a constant uses no variable
pub zeros-spare : (v k n : ℕ) → n ≡ v + k → Spare v k (replicate n 0)
zeros-spare zero k n h =
    let e : n ≡ k = omega arith in
    ap (λ (m : ℕ). replicate m 0) e
zeros-spare (suc v) k zero h = absurd (omega arith)
zeros-spare (suc v) k (suc n) h = zeros-spare v k n (omega arith)

-- one of the first v variables uses no other
pub unit-spare : (v k n i : ℕ) → n ≡ v + k → i < v → Spare v k (unit n i)
unit-spare zero k n i h l = absurd (omega arith)
unit-spare (suc v) k zero i h l = absurd (omega arith)
unit-spare (suc v) k (suc n) zero h l = zeros-spare v k n (omega arith)
unit-spare (suc v) k (suc n) (suc i) h l = unit-spare v k n i (omega arith) (omega arith)

-- of n variables with n powers all may be in use
pub spare-none : (n : ℕ) (e : List ℕ) → ByteList n e → Spare n 0 e
spare-none zero [] h = refl
spare-none zero (a ∷ e) h = absurd h
spare-none (suc n) [] h = absurd h
spare-none (suc n) (a ∷ e) h = spare-none n e h.1

-- every variable is in use where a term has as many powers as there are variables
pub all-used : (n : ℕ) (p : Poly) → Canon n p → Powers (Spare n 0) p
all-used n p h = powers-map (ByteList n) (Spare n 0) (spare-none n) p h.powers

-- the powers of a variable are bytes
pub unit-bytes : (n i : ℕ) → ByteList n (unit n i)
unit-bytes zero i = tt
unit-bytes (suc n) zero = (omega arith, zeros-bytes n)
unit-bytes (suc n) (suc i) = (zero-le, unit-bytes n i)

-- THEOREM: a constant is a reduced polynomial
pub canon-constant : (n c : ℕ) → c < 256 → Canon n (constant n c)
canon-constant n zero h = record { sorted = tt; coefs = tt; powers = tt }
canon-constant n (suc c) h = record { sorted = (tt, tt); coefs = ((omega arith, h), tt); powers = (zeros-bytes n, tt) }

-- THEOREM: a variable is a reduced polynomial
pub canon-variable : (n i : ℕ) → Canon n (variable n i)
canon-variable n i =
    record { sorted = (tt, tt); coefs = ((omega arith, omega arith), tt); powers = (unit-bytes n i, tt) }

-- ---- lists of terms: any property of powers that a product of terms keeps

-- the powers of a product have P where those of both factors have it
abbrev pub Closed : (List ℕ → Type 0) → Type 0
Closed P = (e f : List ℕ) → P e → P f → P (add_pows e f)

-- powers that may be added to those of any term
abbrev pub Shifts : (List ℕ → Type 0) → List ℕ → Type 0
Shifts P e = (f : List ℕ) → P f → P (add_pows e f)

module _ (F : Ops) (P : List ℕ → Type 0) where
  -- a property of powers is kept by the product with a term
  scale-powers : (c : ℕ) (e : List ℕ) → Shifts P e → (q : Poly) → Powers P q → Powers P (scale F c e q)
  scale-powers c e g [] h = tt
  scale-powers c e g (term d f ∷ q) h = (g f h.0, scale-powers c e g q h.1)

  -- a property of powers is kept by the sum
  pub add-powers : (p q : Poly) → Powers P p → Powers P q → Powers P (add_poly F p q)
  add-powers p q h k = normal-powers F P (p ++ q) (powers_append P p q h k)

  module _ (closed : Closed P) where
    -- a property of powers is kept by the square
    square-powers : (p : Poly) → Powers P p → Powers P (square F p)
    square-powers [] h = tt
    square-powers (term c e ∷ p) h = (closed e e h.0 h.0, square-powers p h.1)

    -- a property of powers is kept by the products of all terms
    mul_raw-powers : (p q : Poly) → Powers P p → Powers P q → Powers P (mul_raw F p q)
    mul_raw-powers [] q h k = tt
    mul_raw-powers (term c e ∷ p) q h k =
        powers_append P (scale F c e q) (mul_raw F p q) (scale-powers c e (λ f. closed e f h.0) q k)
        (mul_raw-powers p q h.1 k)

    -- a property of powers is kept by the terms of a map
    linear_raw-powers : (ls : List ℕ) (p : Poly) → Powers P p → Powers P (linear_raw F ls p)
    linear_raw-powers [] p h = tt
    linear_raw-powers (l ∷ ls) p h =
        powers_append P (scale F l [] p) (linear_raw F ls (square F p))
        (scale-powers l [] (λ f k. k) p h) (linear_raw-powers ls (square F p) (square-powers p h))

    -- a property of powers is kept by the product
    pub mul-powers : (p q : Poly) → Powers P p → Powers P q → Powers P (mul_poly F p q)
    mul-powers p q h k = normal-powers F P (mul_raw F p q) (mul_raw-powers p q h k)

    -- a property of powers is kept by the application of a map
    pub map-powers : (n c : ℕ) (ls : List ℕ) (p : Poly) → Powers P (constant n c) → Powers P p
        → Powers P (map_poly F n c ls p)
    map-powers n c ls p z h =
        normal-powers F P (constant n c ++ linear_raw F ls p)
        (powers_append P (constant n c) (linear_raw F ls p) z (linear_raw-powers ls p h))

module _ (F : Ops) where
  -- putting in a byte drops the first power
  module _ (P Q : List ℕ → Type 0) (none : P [] → Q []) (less : (k : ℕ) (e : List ℕ) → P (k ∷ e) → Q e) where
    -- a property of powers becomes another when the first power goes
    pub put_raw-powers : (a : ℕ) (p : Poly) → Powers P p → Powers Q (put_raw F a p)
    put_raw-powers a [] h = tt
    put_raw-powers a (term c [] ∷ p) h = (none h.0, put_raw-powers a p h.1)
    put_raw-powers a (term c (k ∷ e) ∷ p) h = (less k e h.0, put_raw-powers a p h.1)

    -- the same for the normal form
    pub put-powers : (a : ℕ) (p : Poly) → Powers P p → Powers Q (put F a p)
    put-powers a p h = normal-powers F Q (put_raw F a p) (put_raw-powers a p h)

  -- the powers stay within their bounds
  pub put-within : (d : ℕ) (ds : List ℕ) (a : ℕ) (p : Poly) → Powers (Within (d ∷ ds)) p
      → Powers (Within ds) (put F a p)
  put-within d ds = put-powers (Within (d ∷ ds)) (Within ds) (λ h. absurd h) (λ k e h. h.1)

  -- variables that are not in use stay so
  pub put-spare : (v k : ℕ) (a : ℕ) (p : Poly) → Powers (Spare (suc v) k) p → Powers (Spare v k) (put F a p)
  put-spare v k = put-powers (Spare (suc v) k) (Spare v k) (λ h. absurd h) (λ j e h. h)

module _ (F : Ops) (L : Laws F) where
  open F use {add, mul}
  open L.ring use {mul-byte}

  -- the coefficients of a product with a term are bytes
  scale-coefs : (c : ℕ) (e : List ℕ) (q : Poly) → Coefs Byte (scale F c e q)
  scale-coefs c e [] = tt
  scale-coefs c e (term d f ∷ q) = (mul-byte c d, scale-coefs c e q)

  -- the coefficients of the products of all terms are bytes
  mul_raw-coefs : (p q : Poly) → Coefs Byte (mul_raw F p q)
  mul_raw-coefs [] q = tt
  mul_raw-coefs (term c e ∷ p) q =
      coefs_append Byte (scale F c e q) (mul_raw F p q) (scale-coefs c e q) (mul_raw-coefs p q)

  -- the coefficients of the terms of a map are bytes
  linear_raw-coefs : (ls : List ℕ) (p : Poly) → Coefs Byte (linear_raw F ls p)
  linear_raw-coefs [] p = tt
  linear_raw-coefs (l ∷ ls) p =
      coefs_append Byte (scale F l [] p) (linear_raw F ls (square F p)) (scale-coefs l [] p)
      (linear_raw-coefs ls (square F p))

  -- the coefficients with a byte put in are bytes
  pub put_raw-coefs : (a : ℕ) (p : Poly) → Coefs Byte p → Coefs Byte (put_raw F a p)
  put_raw-coefs a [] h = tt
  put_raw-coefs a (term c [] ∷ p) h = (h.0, put_raw-coefs a p h.1)
  put_raw-coefs a (term c (k ∷ e) ∷ p) h = (mul-byte c (power mul a k), put_raw-coefs a p h.1)

  -- ---- THEOREMS

  -- the sum
  pub canon-add : {n : ℕ} (p q : Poly) → Canon n p → Canon n q → Canon n (add_poly F p q)
  canon-add {n} p q h k =
      let r = canon-raw h in
      let s = canon-raw k in
      canon-normal F L (p ++ q) (record {
        coefs = coefs_append Byte p q r.coefs s.coefs;
        powers = powers_append (ByteList n) p q h.powers k.powers;
      })

  -- the product
  pub canon-mul : {n : ℕ} (p q : Poly) → Canon n p → Canon n q → Canon n (mul_poly F p q)
  canon-mul {n} p q h k =
      canon-normal F L (mul_raw F p q) (record {
        coefs = mul_raw-coefs p q;
        powers =
            mul_raw-powers F (ByteList n) (add_pows-bytes n) p q h.powers k.powers;
      })

  -- the application of a map
  pub canon-map : {n : ℕ} (c : ℕ) (ls : List ℕ) (p : Poly) → c < 256 → Canon n p → Canon n (map_poly F n c ls p)
  canon-map {n} c ls p k h =
      canon-normal F L (constant n c ++ linear_raw F ls p) (record {
        coefs = coefs_append Byte (constant n c) (linear_raw F ls p) (constant-coefs n c k) (linear_raw-coefs ls p);
        powers = powers_append (ByteList n) (constant n c) (linear_raw F ls p) (constant-powers n c)
            (linear_raw-powers F (ByteList n) (add_pows-bytes n) ls p h.powers);
      })

  -- a byte put in for the first variable
  pub canon-put : {n : ℕ} (a : ℕ) (p : Poly) → Canon (suc n) p → Canon n (put F a p)
  canon-put {n} a p h =
      let r = canon-raw h in
      canon-normal F L (put_raw F a p) (record {
        coefs = put_raw-coefs a p r.coefs;
        powers = put_raw-powers F (ByteList (suc n)) (ByteList n) (λ h. absurd h) (λ k e h. h.1) a p h.powers;
      })
