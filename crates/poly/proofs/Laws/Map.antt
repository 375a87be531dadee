-- A map coefficient by coefficient: the terms of one coefficient inserted, and the rest squared, leave the whole as it
-- was. It turns on equal coefficients giving one normal form. Assumes nothing.
use mathlib.Core.Path.{◌≡◌, refl, sym, ap, ap₂, ◌∙◌}
use mathlib.Core.List.{List, [], ◌∷◌, ◌++◌}
use Prim.Native.Nat.{ℕ, zero, suc, ◌+◌, ◌*◌, ◌≤◌, ◌<◌}
use native.Mathlib.Omega.{arith}
use native.Mathlib.Nat.{zero-mul, one-mul}
use lib.ListN.{length}
use Rattle.field.specs.Laws.{Ops, Laws}
use Rattle.poly.specs.Poly.{term, Poly, order, constant, into, normal, scale, square, linear_raw, map_poly}
use Rattle.poly.specs.Value.{only, coef}
use Rattle.poly.specs.Canon.{Canon, Raw}
use Rattle.poly.specs.Size.{one_if}
use Rattle.poly.specs.Poly.{unless_zero}
use Rattle.field.proofs.Laws.Algebra.{zero-mul as mul-zero-left, zero-add}
use Rattle.poly.proofs.Laws.Normal.{canon-raw, insert-canon, only_zero, coef-insert}
use Rattle.poly.proofs.Laws.Normal.{same-normal}
use Rattle.poly.proofs.Laws.Reduced.{add_pows-bytes, canon-constant}
use Rattle.poly.proofs.Laws.Sum.{raw_append, coef_append, sum_comm}
use Rattle.poly.proofs.Laws.Size.{length-scale}
use Rattle.poly.proofs.Laws.Sum.{into-length}

-- the squares hold bytes
pub square-raw : (F : Ops) → Laws F → {n : ℕ} (p : Poly) → Raw n p → Raw n (square F p)
square-raw F L [] h = record { coefs = tt; powers = tt }
square-raw F L {n} (term c e ∷ p) h =
    let r : Raw n (square F p) = square-raw F L p (record { coefs = h.coefs.1; powers = h.powers.1 }) in
    record {
      coefs = (L.ring.mul-byte c c, r.coefs);
      powers =
          (add_pows-bytes n e e h.powers.0 h.powers.0, r.powers);
    }

-- the scaled terms hold bytes
scale-raw : (F : Ops) → Laws F → {n : ℕ} (l : ℕ) (p : Poly) → Raw n p → Raw n (scale F l [] p)
scale-raw F L l [] h = record { coefs = tt; powers = tt }
scale-raw F L {n} l (term c e ∷ p) h =
    let r : Raw n (scale F l [] p) = scale-raw F L l p (record { coefs = h.coefs.1; powers = h.powers.1 }) in
    record { coefs = (L.ring.mul-byte l c, r.coefs); powers = (h.powers.0, r.powers) }

-- the terms of a row: none where its coefficient is zero
pub unless-length : (F : Ops) (l : ℕ) (p : Poly) → length (unless_zero l (scale F l [] p)) ≡ one_if l * length p
unless-length F zero p = sym (zero-mul (length p))
unless-length F (suc l) p = length-scale F (suc l) [] p ∙ sym (one-mul (length p))

-- a row inserted adds no more terms than it has
pub unless-into : (F : Ops) (l : ℕ) (p d : Poly)
    → length (into F (unless_zero l (scale F l [] p)) d) ≤ one_if l * length p + length d
unless-into F l p d = omega (arith, into-length F (unless_zero l (scale F l [] p)) d, unless-length F l p)

module _ (F : Ops) (L : Laws F) where
  open F use {add, mul}
  open L.ring use {add_comm, add_assoc}

  -- the terms of a map hold bytes
  linear_raw_lem : {n : ℕ} (ls : List ℕ) (p : Poly) → Raw n p → Raw n (linear_raw F ls p)
  linear_raw_lem [] p h = record { coefs = tt; powers = tt }
  linear_raw_lem (l ∷ ls) p h =
      raw_append (scale F l [] p) (linear_raw F ls (square F p)) (scale-raw F L l p h)
      (linear_raw_lem ls (square F p) (square-raw F L p h))

  -- terms inserted into a reduced polynomial give a reduced polynomial
  pub into-canon : {n : ℕ} (p q : Poly) → Raw n p → Canon n q → Canon n (into F p q)
  into-canon [] q h k = k
  into-canon (term c e ∷ p) q h k =
      insert-canon F L c e h.coefs.0 h.powers.0
      (into-canon p q (record { coefs = h.coefs.1; powers = h.powers.1 }) k)

  -- terms inserted add their coefficients
  coef-into : (p q : Poly) (x : List ℕ) → coef F (into F p q) x ≡ add (coef F p x) (coef F q x)
  coef-into [] q x = sym (zero-add L.ring (coef F q x))
  coef-into (term c e ∷ p) q x =
      coef-insert F L c e (into F p q) x ∙ ap (add (only (order e x) c)) (coef-into p q x)
      ∙ sym (add_assoc (only (order e x) c) (coef F p x) (coef F q x))

  -- a coefficient that is zero adds nothing
  coef-scale-zero : (p : Poly) (x : List ℕ) → coef F (scale F 0 [] p) x ≡ 0
  coef-scale-zero [] x = refl
  coef-scale-zero (term d f ∷ p) x =
      ap₂ add (ap (only (order f x)) (mul-zero-left L.ring d) ∙ only_zero F L (order f x)) (coef-scale-zero p x)
      ∙ zero-add L.ring 0

  -- the terms of a coefficient of zero may be left out
  coef-unless : (l : ℕ) (p : Poly) (x : List ℕ) → coef F (unless_zero l (scale F l [] p)) x ≡ coef F (scale F l [] p) x
  coef-unless zero p x = sym (coef-scale-zero p x)
  coef-unless (suc l) p x = refl

  -- what is left of them holds bytes
  pub unless-raw : {n : ℕ} (l : ℕ) (p : Poly) → Raw n p → Raw n (unless_zero l (scale F l [] p))
  unless-raw zero p h = record { coefs = tt; powers = tt }
  unless-raw (suc l) p h = scale-raw F L (suc l) p h

  -- THEOREM: the first coefficient's terms inserted, and the rest squared, leave the whole as it was
  pub map-step : {n : ℕ} (l : ℕ) (ls : List ℕ) (p d : Poly) → Raw n p → Canon n d
      → normal F (linear_raw F ls (square F p) ++ into F (unless_zero l (scale F l [] p)) d)
      ≡ normal F (linear_raw F (l ∷ ls) p ++ d)
  map-step l ls p d h k =
      let R : Poly = linear_raw F ls (square F p) in
      let S : Poly = scale F l [] p in
      let U : Poly = unless_zero l S in
      same-normal F L (R ++ into F U d) ((S ++ R) ++ d)
      (raw_append R (into F U d) (linear_raw_lem ls (square F p) (square-raw F L p h))
      (canon-raw (into-canon U d (unless-raw l p h) k)))
      (raw_append (S ++ R) d (linear_raw_lem (l ∷ ls) p h) (canon-raw k))
      (λ x.
      coef_append F L R (into F U d) x
      ∙ ap (add (coef F R x)) (coef-into U d x ∙ ap (λ (y : ℕ). add y (coef F d x)) (coef-unless l p x))
      ∙ sym (add_assoc (coef F R x) (coef F S x) (coef F d x))
      ∙ ap (λ (y : ℕ). add y (coef F d x)) (add_comm (coef F R x) (coef F S x) ∙ sym (coef_append F L S R x))
      ∙ sym (coef_append F L (S ++ R) d x))

  -- at first the constant stands there
  pub map_first : (n c : ℕ) (ls : List ℕ) (p : Poly) → c < 256 → Raw n p
      → normal F (linear_raw F ls p ++ constant n c) ≡ map_poly F n c ls p
  map_first n c ls p h k =
      sum_comm F L (linear_raw F ls p) (constant n c) (linear_raw_lem ls p k) (canon-raw (canon-constant n c h))
