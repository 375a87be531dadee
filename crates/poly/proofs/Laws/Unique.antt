-- THEOREM: two reduced polynomials in n variables that agree on all bytes are the same list of terms. Their sum
-- vanishes everywhere, and a polynomial with a term does not. Assumes nothing.
use mathlib.Core.Path.{◌≡◌, refl, sym, ap, ◌∙◌}
use mathlib.Core.List.{List, [], ◌∷◌, ◌++◌}
use Prim.Native.Nat.{ℕ, ◌≤◌, ◌<◌}
use lib.ListN.{length}
use native.Mathlib.Nat.{le_refl}
use Rattle.field.specs.Laws.{Ops, Laws}
use Rattle.poly.specs.Poly.{Poly, order, add_poly}
use Rattle.poly.specs.Value.{only, coef, eval}
use Rattle.poly.specs.First.{put, first_differing}
use Rattle.poly.specs.Canon.{Within, ByteList, Spare, Powers, Canon, Some}
use Rattle.field.proofs.Laws.Algebra.{add_same}
use Rattle.poly.proofs.Laws.Normal.{coef-normal, same-coefs, total_append}
use Rattle.poly.proofs.Laws.Value.{eval_add, eval-put}
use Rattle.poly.proofs.Laws.Reduced.{all-used, canon-add, canon-put, add-powers}
use Rattle.poly.proofs.Laws.Roots.{Each, AllBytes, Different, each_map}
use Rattle.poly.proofs.Laws.Rows.{some_left}
use Rattle.poly.proofs.Laws.First.{first-bytes, first-differs}

module _ (F : Ops) (L : Laws F) where
  open F use {add, mul}
  open L.ring use {add_self}

  -- no term is left where every value is zero
  pub vanishes : (v k n : ℕ) (p : Poly) → v ≤ n → Canon n p → Powers (Spare v k) p
      → ((xs : List ℕ) → ByteList v xs → eval F p xs ≡ 0) → p ≡ []
  vanishes v k n [] i h u z = refl
  vanishes v k n (t ∷ p) i h u z =
      absurd (first-differs F L v k n (t ∷ p) h u tt (z (first_differing F v (t ∷ p))
      (first-bytes F L v n (t ∷ p) i h tt)))

  -- a sum that has no term is one of equals
  pub sum-none : {n : ℕ} (p q : Poly) → Canon n p → Canon n q → add_poly F p q ≡ [] → p ≡ q
  sum-none p q h k e =
      same-coefs F L p q h.sorted k.sorted h.coefs k.coefs (λ x.
      add_same L.ring (coef F p x) (coef F q x)
      (sym (total_append F L (λ c f. only (order f x) c) p q) ∙ sym (coef-normal F L (p ++ q) x)
      ∙ ap (λ (r : Poly). coef F r x) e))

  -- THEOREM: the same where a term has n powers, of which the first v are in use and the last k are not
  pub terms_unique_spare : (v k n : ℕ) (p q : Poly) → v ≤ n → Canon n p → Canon n q → Powers (Spare v k) p
      → Powers (Spare v k) q
      → ((xs : List ℕ) → ByteList v xs → eval F p xs ≡ eval F q xs) → p ≡ q
  terms_unique_spare v k n p q i h l u w z =
      sum-none p q h l (vanishes v k n (add_poly F p q) i (canon-add F L p q h l) (add-powers F (Spare v k) p q u w)
      (λ xs b.
      eval_add F L p q xs ∙ ap (λ (y : ℕ). add y (eval F q xs)) (z xs b) ∙ add_self (eval F q xs)))

  -- THEOREM: two reduced polynomials that agree on all bytes are the same list of terms
  pub terms_unique : (n : ℕ) (p q : Poly) → Canon n p → Canon n q
      → ((xs : List ℕ) → ByteList n xs → eval F p xs ≡ eval F q xs) → p ≡ q
  terms_unique n p q h l z =
      terms_unique_spare n 0 n p q (le_refl n) h l (all-used n p h) (all-used n q l) z

  -- THEOREM: a polynomial in one variable with a term and powers up to d has at most d roots: more than d different
  -- bytes are not all roots
  pub roots-most : (d : ℕ) (p : Poly) (rs : List ℕ) → Canon 1 p → Some p → Powers (Within (d ∷ [])) p
      → AllBytes rs → Different rs → d < length rs → Each (λ r. eval F p (r ∷ []) ≡ 0) rs → ⊥
  roots-most d p rs h s w hb hd l z =
      some_left F L d [] p rs h s w hb hd l (each_map (λ r e.
      let q = canon-put F L r p h in
      vanishes 0 0 0 (put F r p) (le_refl 0) q (all-used 0 (put F r p) q)
      (none r e)) rs z)
    where
      none : (r : ℕ) → eval F p (r ∷ []) ≡ 0 → (xs : List ℕ) → ByteList 0 xs → eval F (put F r p) xs ≡ 0
      none r e [] b = eval-put F L r p [] ∙ e
      none r e (x ∷ xs) b = absurd b
