-- A byte put in for variable i, whose power becomes 0: the result is reduced, and its value is the value with that byte
-- in place i. Assumes nothing.
use mathlib.Core.Path.{◌≡◌, refl, ap, ap₂, ◌∙◌}
use mathlib.Core.List.{List, [], ◌∷◌}
use Prim.Native.Nat.{ℕ, zero, suc, ◌≤◌, ◌<◌, zero-le}
use native.Mathlib.Omega.{arith}
use native.Mathlib.Nat.{le_of_suc-le-suc}
use lib.ListN.{get_or, set}
use Rattle.field.specs.Field.{power}
use Rattle.field.specs.Laws.{Ops, Laws}
use Rattle.poly.specs.Poly.{term, Poly}
use Rattle.poly.specs.Value.{mono, eval}
use Rattle.poly.specs.First.{put_slot_raw, put_slot}
use Rattle.poly.specs.Canon.{ByteList, Canon, Raw}
use Rattle.field.proofs.Laws.Algebra.{mul_left_comm}
use Rattle.poly.proofs.Laws.Normal.{canon-raw, canon-normal}
use Rattle.poly.proofs.Laws.Value.{mono-byte, eval-normal}

-- n bytes with one of them replaced by a byte
pub set-bytes : (n i a : ℕ) (e : List ℕ) → a ≤ 255 → ByteList n e → ByteList n (set e i a)
set-bytes zero i a [] l h = tt
set-bytes zero i a (k ∷ e) l h = absurd h
set-bytes (suc n) i a [] l h = absurd h
set-bytes (suc n) zero a (k ∷ e) l h = (l, h.1)
set-bytes (suc n) (suc i) a (k ∷ e) l h = (h.0, set-bytes n i a e l h.1)

module _ (F : Ops) (L : Laws F) where
  open F use {add, mul}
  open L.ring use {mul-byte, mul_assoc, one-mul}

  -- the terms with the byte put in hold bytes
  pub put_slot_raw_lem : {n : ℕ} (i a : ℕ) (p : Poly) → Raw n p → Raw n (put_slot_raw F i a p)
  put_slot_raw_lem i a [] h = record { coefs = tt; powers = tt }
  put_slot_raw_lem {n} i a (term c e ∷ p) h =
      let r : Raw n (put_slot_raw F i a p) = put_slot_raw_lem i a p (record { coefs = h.coefs.1; powers = h.powers.1 }) in
      record {
        coefs = (mul-byte c (power mul a (get_or e i 0)), r.coefs);
        powers = (set-bytes n i 0 e zero-le h.powers.0, r.powers);
      }

  -- THEOREM: a byte put in for a variable gives a reduced polynomial
  pub canon-put_slot : {n : ℕ} (i a : ℕ) (p : Poly) → Canon n p → Canon n (put_slot F i a p)
  canon-put_slot i a p h = canon-normal F L (put_slot_raw F i a p) (put_slot_raw_lem i a p (canon-raw h))

  -- ---- values: v variables in use, terms of any number of powers

  -- a product of powers with a byte in place i: its power, times the product without it
  mono-set : (v i a : ℕ) (e xs : List ℕ) → i < v → ByteList v xs
      → mul (power mul a (get_or e i 0)) (mono F (set e i 0) xs) ≡ mono F e (set xs i a)
  mono-set v i a [] xs l h = one-mul 1 (omega arith)
  mono-set zero i a (k ∷ e) xs l h = absurd (omega arith)
  mono-set (suc v) i a (k ∷ e) [] l h = absurd h
  mono-set (suc v) zero a (k ∷ e) (x ∷ xs) l h = ap (mul (power mul a k)) (one-mul (mono F e xs) (mono-byte F L e xs))
  mono-set (suc v) (suc i) a (k ∷ e) (x ∷ xs) l h =
      mul_left_comm L.ring (power mul a (get_or e i 0)) (power mul x k) (mono F (set e i 0) xs)
      ∙ ap (mul (power mul x k)) (mono-set v i a e xs (le_of_suc-le-suc l) h.1)

  -- the same for a list of terms
  eval-put_slot_raw : (v i a : ℕ) (p : Poly) (xs : List ℕ) → i < v → ByteList v xs
      → eval F (put_slot_raw F i a p) xs ≡ eval F p (set xs i a)
  eval-put_slot_raw v i a [] xs l h = refl
  eval-put_slot_raw v i a (term c e ∷ p) xs l h =
      ap₂ add (mul_assoc c (power mul a (get_or e i 0)) (mono F (set e i 0) xs) ∙ ap (mul c) (mono-set v i a e xs l h))
      (eval-put_slot_raw v i a p xs l h)

  -- THEOREM: the value with a byte put in for variable i is the value with that byte in place i
  pub eval-put_slot : (v i a : ℕ) (p : Poly) (xs : List ℕ) → i < v → ByteList v xs
      → eval F (put_slot F i a p) xs ≡ eval F p (set xs i a)
  eval-put_slot v i a p xs l h = eval-normal F L (put_slot_raw F i a p) xs ∙ eval-put_slot_raw v i a p xs l h
