-- The value at bytes: the normal form has the value of its list, and the value of each operation on polynomials is the
-- operation on their values. Assumes nothing.
use mathlib.Core.Path.{◌≡◌, refl, sym, ap, ap₂, ◌∙◌}
use mathlib.Core.List.{List, [], ◌∷◌, ◌++◌}
use Prim.Native.Nat.{ℕ, zero, suc, ◌+◌, ◌<◌}
use native.Mathlib.Omega.{arith}
use native.Mathlib.Nat.{le_of_suc-le-suc}
use lib.ListN.{replicate, get_or}
use Rattle.field.specs.Field.{power}
use Rattle.field.specs.Laws.{Ops, Laws}
use Rattle.poly.specs.Poly.{term, Poly, add_pows, normal, constant, unit, variable, add_poly, scale, mul_raw}
use Rattle.poly.specs.Poly.{mul_poly, square, linear_raw, map_poly}
use Rattle.poly.specs.Value.{mono, eval, linear, map_byte}
use Rattle.poly.specs.First.{put_raw, put}
use Rattle.poly.specs.Canon.{ByteList}
use Rattle.field.proofs.Laws.Algebra.{zero-mul, mul-zero, mul-one, distrib-right, mul_swap, square-add, pow_add}
use Rattle.poly.proofs.Laws.Power.{pow_reduce}
use Rattle.poly.proofs.Laws.Normal.{normal-total, total_append}

module _ (F : Ops) (L : Laws F) where
  open F use {add, mul}
  open L.ring use {add-byte, add_assoc, add-zero, mul-byte, mul_comm, mul_assoc, distrib, one-mul}

  -- a product of powers is a byte
  pub mono-byte : (e xs : List ℕ) → mono F e xs < 256
  mono-byte [] xs = omega arith
  mono-byte (k ∷ e) [] = omega arith
  mono-byte (k ∷ e) (x ∷ xs) = mul-byte (power mul x k) (mono F e xs)

  -- a value is a byte
  pub eval-byte : (p : Poly) (xs : List ℕ) → eval F p xs < 256
  eval-byte [] xs = omega arith
  eval-byte (term c e ∷ p) xs = add-byte (mul-byte c (mono F e xs)) (eval-byte p xs)

  -- ---- the normal form

  -- the normal form has the same value
  pub eval-normal : (p : Poly) (xs : List ℕ) → eval F (normal F p) xs ≡ eval F p xs
  eval-normal p xs =
      normal-total F L (λ d f. mul d (mono F f xs)) (λ f. zero-mul L.ring (mono F f xs))
      (λ d d' f. distrib-right L.ring d d' (mono F f xs)) p

  -- the value of two lists joined
  pub eval_append : (p q : Poly) (xs : List ℕ) → eval F (p ++ q) xs ≡ add (eval F p xs) (eval F q xs)
  eval_append p q xs = total_append F L (λ d f. mul d (mono F f xs)) p q

  -- ---- products of terms

  -- a product of powers: the powers of a product of terms
  mono-add : (n : ℕ) (e f xs : List ℕ) → ByteList n xs → mono F (add_pows e f) xs ≡ mul (mono F e xs) (mono F f xs)
  mono-add n [] f xs h = sym (one-mul (mono F f xs) (mono-byte f xs))
  mono-add n (a ∷ e) [] xs h = sym (mul-one L.ring (mono F (a ∷ e) xs) (mono-byte (a ∷ e) xs))
  mono-add n (a ∷ e) (b ∷ f) [] h = sym (one-mul 1 (omega arith))
  mono-add zero (a ∷ e) (b ∷ f) (x ∷ xs) h = absurd h
  mono-add (suc n) (a ∷ e) (b ∷ f) (x ∷ xs) h =
      let l : x < 256 = omega (arith, h.0) in
      ap₂ mul (pow_reduce F L x l (a + b) ∙ pow_add L.ring x a b) (mono-add n e f xs h.1)
      ∙ mul_swap L.ring (power mul x a) (power mul x b) (mono F e xs) (mono F f xs)

  -- powers of zero give 1
  mono-zeros : (n : ℕ) (xs : List ℕ) → mono F (replicate n 0) xs ≡ 1
  mono-zeros zero xs = refl
  mono-zeros (suc n) [] = refl
  mono-zeros (suc n) (x ∷ xs) = ap (mul 1) (mono-zeros n xs) ∙ one-mul 1 (omega arith)

  module _ (n : ℕ) (xs : List ℕ) (h : ByteList n xs) where
    -- the product with a term
    eval-scale : (c : ℕ) (e : List ℕ) (q : Poly) → eval F (scale F c e q) xs ≡ mul (mul c (mono F e xs)) (eval F q xs)
    eval-scale c e [] = sym (mul-zero L.ring (mul c (mono F e xs)))
    eval-scale c e (term d f ∷ q) =
        ap₂ add
        (ap (mul (mul c d)) (mono-add n e f xs h) ∙ mul_swap L.ring c d (mono F e xs) (mono F f xs))
        (eval-scale c e q)
        ∙ sym (distrib (mul c (mono F e xs)) (mul d (mono F f xs)) (eval F q xs))

    -- the products of all terms
    eval-mul_raw : (p q : Poly) → eval F (mul_raw F p q) xs ≡ mul (eval F p xs) (eval F q xs)
    eval-mul_raw [] q = sym (zero-mul L.ring (eval F q xs))
    eval-mul_raw (term c e ∷ p) q =
        eval_append (scale F c e q) (mul_raw F p q) xs
        ∙ ap₂ add (eval-scale c e q) (eval-mul_raw p q)
        ∙ sym (distrib-right L.ring (mul c (mono F e xs)) (eval F p xs) (eval F q xs))

    -- the square
    eval-square : (p : Poly) → eval F (square F p) xs ≡ mul (eval F p xs) (eval F p xs)
    eval-square [] = sym (zero-mul L.ring 0)
    eval-square (term c e ∷ p) =
        ap₂ add
        (ap (mul (mul c c)) (mono-add n e e xs h) ∙ mul_swap L.ring c c (mono F e xs) (mono F e xs))
        (eval-square p)
        ∙ sym (square-add L.ring (mul c (mono F e xs)) (eval F p xs))

    -- the terms of a map
    eval-linear_raw : (ls : List ℕ) (p : Poly) → eval F (linear_raw F ls p) xs ≡ linear F ls (eval F p xs)
    eval-linear_raw [] p = refl
    eval-linear_raw (l ∷ ls) p =
        eval_append (scale F l [] p) (linear_raw F ls (square F p)) xs
        ∙ ap₂ add
        (eval-scale l [] p ∙ mul_assoc l 1 (eval F p xs) ∙ ap (mul l) (one-mul (eval F p xs) (eval-byte p xs)))
        (eval-linear_raw ls (square F p) ∙ ap (linear F ls) (eval-square p))

  -- the value of a constant is its byte
  pub eval-constant : (n c : ℕ) (xs : List ℕ) → c < 256 → eval F (constant n c) xs ≡ c
  eval-constant n zero xs h = refl
  eval-constant n (suc c) xs h =
      add-zero (mul (suc c) (mono F (replicate n 0) xs)) ∙ ap (mul (suc c)) (mono-zeros n xs)
      ∙ mul-one L.ring (suc c) h

  -- the first power
  pow_one : (x : ℕ) → x < 256 → power mul x 1 ≡ x
  pow_one x h = mul-one L.ring x h

  -- the powers of a variable give its byte
  mono-unit : (n v i : ℕ) (xs : List ℕ) → i < n → i < v → ByteList v xs → mono F (unit n i) xs ≡ get_or xs i 0
  mono-unit zero v i xs l m h = absurd (omega arith)
  mono-unit (suc n) zero i xs l m h = absurd (omega arith)
  mono-unit (suc n) (suc v) i [] l m h = absurd h
  mono-unit (suc n) (suc v) zero (x ∷ xs) l m h =
      let k : x < 256 = omega (arith, h.0) in
      ap₂ mul (pow_one x k) (mono-zeros n xs) ∙ mul-one L.ring x k
  mono-unit (suc n) (suc v) (suc i) (x ∷ xs) l m h =
      one-mul (mono F (unit n i) xs) (mono-byte (unit n i) xs)
      ∙ mono-unit n v i xs (le_of_suc-le-suc l) (le_of_suc-le-suc m) h.1

  -- ---- THEOREMS: the value of each operation is the operation on the values

  -- the value of a variable is its byte; a term has n powers, of which the first v are in use
  pub eval-variable : (n v i : ℕ) (xs : List ℕ) → i < n → i < v → ByteList v xs → eval F (variable n i) xs ≡ get_or xs i 0
  eval-variable n v i xs l m h =
      add-zero (mul 1 (mono F (unit n i) xs)) ∙ one-mul (mono F (unit n i) xs) (mono-byte (unit n i) xs)
      ∙ mono-unit n v i xs l m h

  -- the sum
  pub eval_add : (p q : Poly) (xs : List ℕ) → eval F (add_poly F p q) xs ≡ add (eval F p xs) (eval F q xs)
  eval_add p q xs = eval-normal (p ++ q) xs ∙ eval_append p q xs

  -- the product
  pub eval_mul : (v : ℕ) (p q : Poly) (xs : List ℕ) → ByteList v xs
      → eval F (mul_poly F p q) xs ≡ mul (eval F p xs) (eval F q xs)
  eval_mul v p q xs h = eval-normal (mul_raw F p q) xs ∙ eval-mul_raw v xs h p q

  -- the application of a map
  pub eval-map : (n v c : ℕ) (ls : List ℕ) (p : Poly) (xs : List ℕ) → c < 256 → ByteList v xs
      → eval F (map_poly F n c ls p) xs ≡ map_byte F c ls (eval F p xs)
  eval-map n v c ls p xs k h =
      eval-normal (constant n c ++ linear_raw F ls p) xs
      ∙ eval_append (constant n c) (linear_raw F ls p) xs
      ∙ ap₂ add (eval-constant n c xs k) (eval-linear_raw v xs h ls p)

  -- a byte put in, before the result is made normal
  eval-put_raw : (a : ℕ) (p : Poly) (xs : List ℕ) → eval F (put_raw F a p) xs ≡ eval F p (a ∷ xs)
  eval-put_raw a [] xs = refl
  eval-put_raw a (term c [] ∷ p) xs = ap (add (mul c 1)) (eval-put_raw a p xs)
  eval-put_raw a (term c (k ∷ e) ∷ p) xs = ap₂ add (mul_assoc c (power mul a k) (mono F e xs)) (eval-put_raw a p xs)

  -- a byte put in for the first variable
  pub eval-put : (a : ℕ) (p : Poly) (xs : List ℕ) → eval F (put F a p) xs ≡ eval F p (a ∷ xs)
  eval-put a p xs = eval-normal (put_raw F a p) xs ∙ eval-put_raw a p xs
