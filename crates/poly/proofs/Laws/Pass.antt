-- One pass over a list whose powers never fall gives its normal form: it has the same coefficients and is reduced.
-- Assumes nothing.
use mathlib.Core.Path.{◌≡◌, refl, sym, ap, ◌∙◌, subst}
use mathlib.Core.List.{List, [], ◌∷◌}
use Prim.Native.Nat.{ℕ, ◌<◌, Ordering}
use Rattle.field.specs.Laws.{Ops, Laws}
use Rattle.poly.specs.Poly.{term, Poly, order, keep, normal}
use Rattle.poly.specs.Value.{only, total, coef}
use Rattle.poly.specs.Canon.{Coefs, Above, Sorted, Byte, NonzeroByte, Raw}
use Rattle.poly.specs.Pass.{gather_at, gather, pass}
use Rattle.poly.proofs.Laws.Order.{order_same, order_trans}
use Rattle.poly.proofs.Laws.Normal.{keep-above, keep-sorted, keep-coefs, keep-total, only_zero, only-add}
use Rattle.poly.proofs.Laws.Normal.{coef-normal, same-coefs, canon-normal}

-- the powers never fall, from e on
abbrev pub Rising : List ℕ → Poly → Type 0
Rising e [] = Unit {0}
Rising e (term d f ∷ q) = (order e f ≡ Ordering.gt → ⊥) × Rising f q

-- the powers never fall
abbrev pub Rises : Poly → Type 0
Rises [] = Unit {0}
Rises (term c e ∷ q) = Rising e q

module _ (F : Ops) where
  open F use {add, mul}

  -- ---- the result is sorted

  -- the same powers at the start
  rising_from : (e f : List ℕ) (q : Poly) → order e f ≡ Ordering.eq → Rising f q → Rising e q
  rising_from e f q h r = subst (λ (y : List ℕ). Rising y q) (sym (order_same e f h)) r

  -- what comes before the powers gathered comes before the result
  gather-above : (x : List ℕ) (c : ℕ) (e : List ℕ) (q : Poly) → order x e ≡ Ordering.lt → Rising e q
      → Above x (gather F c e q)
  gather-above x c e [] h r = keep-above x c e [] h tt
  gather-above x c e (term d f ∷ q) h r =
      go (order e f) refl (λ n. gather-above x (add c d) e q h n) (λ n. gather-above x d f q n r.1)
    where
      go : (o : Ordering) → order e f ≡ o → (Rising e q → Above x (gather F (add c d) e q))
          → (order x f ≡ Ordering.lt → Above x (gather F d f q))
          → Above x (gather_at F o c e (gather F (add c d) e q) (gather F d f q))
      go Ordering.lt k i j = keep-above x c e (gather F d f q) h (j (order_trans x e f h k))
      go Ordering.eq k i j = i (rising_from e f q k r.1)
      go Ordering.gt k i j = absurd (r.0 k)

  -- the result ascends
  gather-sorted : (c : ℕ) (e : List ℕ) (q : Poly) → Rising e q → Sorted (gather F c e q)
  gather-sorted c e [] r = keep-sorted c e [] tt tt
  gather-sorted c e (term d f ∷ q) r = go (order e f) refl (gather-sorted (add c d) e q) (gather-sorted d f q r.1)
    where
      go : (o : Ordering) → order e f ≡ o → (Rising e q → Sorted (gather F (add c d) e q)) → Sorted (gather F d f q)
          → Sorted (gather_at F o c e (gather F (add c d) e q) (gather F d f q))
      go Ordering.lt k i s = keep-sorted c e (gather F d f q) (gather-above e d f q k r.1) s
      go Ordering.eq k i s = i (rising_from e f q k r.1)
      go Ordering.gt k i s = absurd (r.0 k)

module _ (F : Ops) (L : Laws F) where
  open F use {add, mul}
  open L.ring use {add-byte, add_assoc}

  -- the result's coefficients are nonzero bytes
  gather-coefs : (c : ℕ) (e : List ℕ) (q : Poly) → c < 256 → Coefs Byte q → Coefs NonzeroByte (gather F c e q)
  gather-coefs c e [] h k = keep-coefs c e [] h tt
  gather-coefs c e (term d f ∷ q) h k =
      go (order e f) (gather-coefs (add c d) e q (add-byte h k.0) k.1) (gather-coefs d f q k.0 k.1)
    where
      go : (o : Ordering) → Coefs NonzeroByte (gather F (add c d) e q) → Coefs NonzeroByte (gather F d f q)
          → Coefs NonzeroByte (gather_at F o c e (gather F (add c d) e q) (gather F d f q))
      go Ordering.lt i s = keep-coefs c e (gather F d f q) h s
      go Ordering.eq i s = i
      go Ordering.gt i s = keep-coefs c e (gather F d f q) h s

  -- ---- it has the same sums

  module _ (w : ℕ → List ℕ → ℕ) (w-zero : (e : List ℕ) → w 0 e ≡ 0)
      (w-add : (c d : ℕ) (e : List ℕ) → w (add c d) e ≡ add (w c e) (w d e)) where
    -- the result has the same sums
    gather-total : (c : ℕ) (e : List ℕ) (q : Poly) → total F w (gather F c e q) ≡ add (w c e) (total F w q)
    gather-total c e [] = keep-total F L w w-zero w-add c e []
    gather-total c e (term d f ∷ q) = go (order e f) refl (gather-total (add c d) e q) (gather-total d f q)
      where
        alone : total F w (gather F d f q) ≡ add (w d f) (total F w q)
            → total F w (keep c e (gather F d f q)) ≡ add (w c e) (add (w d f) (total F w q))
        alone s = keep-total F L w w-zero w-add c e (gather F d f q) ∙ ap (add (w c e)) s

        go : (o : Ordering) → order e f ≡ o → total F w (gather F (add c d) e q) ≡ add (w (add c d) e) (total F w q)
            → total F w (gather F d f q) ≡ add (w d f) (total F w q)
            → total F w (gather_at F o c e (gather F (add c d) e q) (gather F d f q))
            ≡ add (w c e) (add (w d f) (total F w q))
        go Ordering.lt k i s = alone s
        go Ordering.eq k i s =
            i ∙ ap (λ (x : ℕ). add x (total F w q)) (w-add c d e) ∙ add_assoc (w c e) (w d e) (total F w q)
            ∙ ap (λ (x : List ℕ). add (w c e) (add (w d x) (total F w q))) (order_same e f k)
        go Ordering.gt k i s = alone s

  -- the result has the same coefficients
  coef-gather : (c : ℕ) (e : List ℕ) (q : Poly) (x : List ℕ) → coef F (gather F c e q) x ≡ coef F (term c e ∷ q) x
  coef-gather c e q x =
      gather-total (λ d f. only (order f x) d) (λ f. only_zero F L (order f x))
      (λ d d' f. only-add F L (order f x) d d') c e q

  -- THEOREM: one pass gives the normal form
  pub pass-normal : {n : ℕ} (p : Poly) → Raw n p → Rises p → pass F p ≡ normal F p
  pass-normal [] h r = refl
  pass-normal {n} (term c e ∷ q) h r =
      let s = canon-normal F L (term c e ∷ q) h in
      same-coefs F L (gather F c e q) (normal F (term c e ∷ q)) (gather-sorted F c e q r) s.sorted
      (gather-coefs c e q h.coefs.0 h.coefs.1) s.coefs
      (λ x. coef-gather c e q x ∙ sym (coef-normal F L (term c e ∷ q) x))
