-- Terms with i zeros in front of their powers, and terms without their first i powers. Assumes nothing.
use mathlib.Core.Path.{◌≡◌, refl, ap, ap₂, ◌∙◌, subst}
use mathlib.Core.List.{List, [], ◌∷◌}
use Prim.Native.Nat.{ℕ, zero, suc, ◌+◌, ◌<◌, zero-le}
use native.Mathlib.Omega.{arith}
use lib.ListN.{length, drop}
use Rattle.poly.specs.Poly.{term, Poly}
use Rattle.poly.specs.Canon.{ByteList, Powers, Coefs, Above, Sorted, NonzeroByte, Some, Canon}
use Rattle.search.specs.Put.{Led}
use Rattle.poly.proofs.Laws.Slots.{zeros, lead, order-zeros}

-- each term without its first i powers
abbrev pub cut : ℕ → Poly → Poly
cut i [] = []
cut i (term c e ∷ p) = term c (drop i e) ∷ cut i p

-- the zeros in front left out again
pub drop-zeros : (i : ℕ) (e : List ℕ) → drop i (zeros i e) ≡ e
drop-zeros zero e = refl
drop-zeros (suc i) e = drop-zeros i e

-- the same for each term
pub cut-lead : (i : ℕ) (p : Poly) → cut i (lead i p) ≡ p
cut-lead i [] = refl
cut-lead i (term c e ∷ p) = ap₂ {C = Poly} (λ (x : List ℕ) (q : Poly). term c x ∷ q) (drop-zeros i e) (cut-lead i p)

-- zeros in front are zero
pub zeros-led : (i : ℕ) (e : List ℕ) → Led i (zeros i e)
zeros-led zero e x h = absurd (omega arith)
zeros-led (suc i) e zero h = refl
zeros-led (suc i) e (suc x) h = zeros-led i e x (omega arith)

-- the same for each term
pub lead-led : (i : ℕ) (p : Poly) → Powers (Led i) (lead i p)
lead-led i [] = tt
lead-led i (term c e ∷ p) = (zeros-led i e, lead-led i p)

-- zeros in front of v bytes are i + v bytes
pub zeros-bytes : (i v : ℕ) (e : List ℕ) (n : ℕ) → n ≡ i + v → ByteList v e → ByteList n (zeros i e)
zeros-bytes zero v e n q h =
    let s : v ≡ n = omega arith in
    subst (λ (x : ℕ). ByteList x e) s h
zeros-bytes (suc i) v e zero q h = absurd (omega arith)
zeros-bytes (suc i) v e (suc n) q h = (zero-le, zeros-bytes i v e n (omega arith) h)

-- the same for each term
pub lead-powers : (i v n : ℕ) (p : Poly) → n ≡ i + v → Powers (ByteList v) p → Powers (ByteList n) (lead i p)
lead-powers i v n [] q h = tt
lead-powers i v n (term c e ∷ p) q h = (zeros-bytes i v e n q h.0, lead-powers i v n p q h.1)

-- zeros in front keep the order
pub lead-above : (i : ℕ) (e : List ℕ) (p : Poly) → Above e p → Above (zeros i e) (lead i p)
lead-above i e [] h = tt
lead-above i e (term d f ∷ p) h = order-zeros i e f ∙ h

-- and leave the terms ascending
pub lead-sorted : (i : ℕ) (p : Poly) → Sorted p → Sorted (lead i p)
lead-sorted i [] h = tt
lead-sorted i (term c e ∷ p) h = (lead-above i e p h.0, lead-sorted i p h.1)

-- and the coefficients nonzero bytes
pub lead-coefs : (i : ℕ) (p : Poly) → Coefs NonzeroByte p → Coefs NonzeroByte (lead i p)
lead-coefs i [] h = tt
lead-coefs i (term c e ∷ p) h = (h.0, lead-coefs i p h.1)

-- and a polynomial reduced
pub lead-canon : (i v n : ℕ) (p : Poly) → n ≡ i + v → Canon v p → Canon n (lead i p)
lead-canon i v n p q h = record {
  sorted = lead-sorted i p h.sorted;
  coefs = lead-coefs i p h.coefs;
  powers = lead-powers i v n p q h.powers;
}

-- and as many terms
pub lead-length : (i : ℕ) (p : Poly) → length (lead i p) ≡ length p
lead-length i [] = refl
lead-length i (term c e ∷ p) = ap suc (lead-length i p)

-- a list of length 0 has no term
pub none_of_length : (p : Poly) → length p ≡ 0 → p ≡ []
none_of_length [] h = refl
none_of_length (t ∷ p) h = absurd (omega arith)

-- a longer one has a term
pub some_of_length : (p : Poly) → 0 < length p → Some p
some_of_length [] h = absurd (omega arith)
some_of_length (t ∷ p) h = tt

-- nothing left out
pub cut-none : (p : Poly) → cut 0 p ≡ p
cut-none [] = refl
cut-none (term c e ∷ p) = ap {B = Poly} (λ (q : Poly). term c e ∷ q) (cut-none p)
