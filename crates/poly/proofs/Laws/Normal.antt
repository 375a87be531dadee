-- `normal`: it keeps every additive sum over the terms and every property of powers, its result is reduced, and reduced
-- polynomials with the same coefficients are the same list. So terms may be inserted in any order. Assumes nothing.
use mathlib.Core.Path.{◌≡◌, refl, sym, ap, ap₂, ◌∙◌, subst⁻¹}
use mathlib.Core.List.{List, [], ◌∷◌, ◌++◌}
use Prim.Native.Nat.{ℕ, zero, suc, ◌<◌, Ordering}
use native.Mathlib.Omega.{arith}
use native.Mathlib.Nat.{zero-lt-suc}
use Rattle.field.specs.Laws.{Ops, Laws}
use Rattle.poly.specs.Poly.{term, Poly, order, keep, place, insert, normal}
use Rattle.poly.specs.Value.{only, total, coef}
use Rattle.poly.specs.Canon.{ByteList, Powers, Coefs, Above, Sorted, Byte, NonzeroByte, Canon, Raw}
use Rattle.poly.proofs.Laws.Order.{order_self, order_same, order_gt, order_lt, order_trans}
use Rattle.field.proofs.Laws.Algebra.{zero-add, add_left_comm, add_cancel}

-- ---- the order of a list's heads

-- what comes before the head's predecessor comes before the head
pub above_trans : (x e : List ℕ) (p : Poly) → order x e ≡ Ordering.lt → Above e p → Above x p
above_trans x e [] h a = tt
above_trans x e (term d f ∷ p) h a = order_trans x e f h a

-- powers that come before a term and a list come before both
pub keep-above : (x : List ℕ) (c : ℕ) (e : List ℕ) (p : Poly) → order x e ≡ Ordering.lt → Above x p
    → Above x (keep c e p)
keep-above x zero e p h a = a
keep-above x (suc c) e p h a = h

-- a term in front of terms that come behind it
pub keep-sorted : (c : ℕ) (e : List ℕ) (p : Poly) → Above e p → Sorted p → Sorted (keep c e p)
keep-sorted zero e p a s = s
keep-sorted (suc c) e p a s = (a, s)

-- a byte in front, unless it is zero, keeps coefficients nonzero bytes
pub keep-coefs : (c : ℕ) (e : List ℕ) (p : Poly) → c < 256 → Coefs NonzeroByte p → Coefs NonzeroByte (keep c e p)
keep-coefs zero e p h k = k
keep-coefs (suc c) e p h k = ((zero-lt-suc c, h), k)

-- a term in front keeps what holds of all powers
pub keep-powers : (P : List ℕ → Type 0) (c : ℕ) (e : List ℕ) (p : Poly) → P e → Powers P p → Powers P (keep c e p)
keep-powers P zero e p h k = k
keep-powers P (suc c) e p h k = (h, k)

-- ---- lists joined

-- what holds of the powers of two lists holds of the lists joined
pub powers_append : (P : List ℕ → Type 0) (p q : Poly) → Powers P p → Powers P q → Powers P (p ++ q)
powers_append P [] q h k = k
powers_append P (term c e ∷ p) q h k = (h.0, powers_append P p q h.1 k)

-- what holds of the coefficients of two lists holds of the lists joined
pub coefs_append : (P : ℕ → Type 0) (p q : Poly) → Coefs P p → Coefs P q → Coefs P (p ++ q)
coefs_append P [] q h k = k
coefs_append P (term c e ∷ p) q h k = (h.0, coefs_append P p q h.1 k)

-- what holds of each coefficient may be weakened
pub coefs-map : (P Q : ℕ → Type 0) → ((c : ℕ) → P c → Q c) → (p : Poly) → Coefs P p → Coefs Q p
coefs-map P Q f [] h = tt
coefs-map P Q f (term c e ∷ p) h = (f c h.0, coefs-map P Q f p h.1)

-- what holds of each list of powers may be weakened
pub powers-map : (P Q : List ℕ → Type 0) → ((e : List ℕ) → P e → Q e) → (p : Poly) → Powers P p → Powers Q p
powers-map P Q f [] h = tt
powers-map P Q f (term c e ∷ p) h = (f e h.0, powers-map P Q f p h.1)

-- a reduced polynomial is a list of terms of bytes
pub canon-raw : {n : ℕ} {p : Poly} → Canon n p → Raw n p
canon-raw {n} {p} h = record { coefs = coefs-map NonzeroByte Byte (λ c k. k.1) p h.coefs; powers = h.powers }

-- ---- what holds of every field

module _ (F : Ops) where
  open F use {add, mul}

  -- a property of powers is kept where a term is placed
  place-powers : (P : List ℕ → Type 0) (o : Ordering) (c : ℕ) (e : List ℕ) (d : ℕ) (f : List ℕ) (p r : Poly) → P e
      → P f → Powers P p → Powers P r
      → Powers P (place F o c e d f p r)
  place-powers P Ordering.lt c e d f p r he hf hp hr = keep-powers P c e (term d f ∷ p) he (hf, hp)
  place-powers P Ordering.eq c e d f p r he hf hp hr = keep-powers P (add c d) e p he hp
  place-powers P Ordering.gt c e d f p r he hf hp hr = (hf, hr)

  -- a property of powers is kept by an insertion
  pub insert-powers : (P : List ℕ → Type 0) (c : ℕ) (e : List ℕ) (p : Poly) → P e → Powers P p
      → Powers P (insert F c e p)
  insert-powers P c e [] he hp = keep-powers P c e [] he tt
  insert-powers P c e (term d f ∷ p) he hp =
      place-powers P (order e f) c e d f p (insert F c e p) he hp.0 hp.1 (insert-powers P c e p he hp.1)

  -- a property of powers is kept by the normal form
  pub normal-powers : (P : List ℕ → Type 0) (p : Poly) → Powers P p → Powers P (normal F p)
  normal-powers P [] h = tt
  normal-powers P (term c e ∷ p) h = insert-powers P c e (normal F p) h.0 (normal-powers P p h.1)

  -- powers that come before both come before the term placed
  place-above : (x : List ℕ) (o : Ordering) (c : ℕ) (e : List ℕ) (d : ℕ) (f : List ℕ) (p r : Poly)
      → order x e ≡ Ordering.lt → order x f ≡ Ordering.lt
      → Above f p → Above x (place F o c e d f p r)
  place-above x Ordering.lt c e d f p r he hf a = keep-above x c e (term d f ∷ p) he hf
  place-above x Ordering.eq c e d f p r he hf a = keep-above x (add c d) e p he (above_trans x f p hf a)
  place-above x Ordering.gt c e d f p r he hf a = hf

  -- powers that come before a list and a term come before the term inserted
  pub insert-above : (x : List ℕ) (c : ℕ) (e : List ℕ) (p : Poly) → order x e ≡ Ordering.lt → Above x p → Sorted p
      → Above x (insert F c e p)
  insert-above x c e [] he a s = keep-above x c e [] he tt
  insert-above x c e (term d f ∷ p) he a s = place-above x (order e f) c e d f p (insert F c e p) he a s.0

  -- a term placed by its order leaves the terms ascending
  place-sorted : (o : Ordering) (c : ℕ) (e : List ℕ) (d : ℕ) (f : List ℕ) (p r : Poly) → order e f ≡ o → Above f p
      → Sorted p
      → (order f e ≡ Ordering.lt → Above f r) → Sorted r → Sorted (place F o c e d f p r)
  place-sorted Ordering.lt c e d f p r h a s ar sr = keep-sorted c e (term d f ∷ p) h (a, s)
  place-sorted Ordering.eq c e d f p r h a s ar sr =
      keep-sorted (add c d) e p (subst⁻¹ (λ (x : List ℕ). Above x p) (order_same e f h) a) s
  place-sorted Ordering.gt c e d f p r h a s ar sr = (ar (order_gt e f h), sr)

  -- an insertion leaves the terms ascending
  pub insert-sorted : (c : ℕ) (e : List ℕ) (p : Poly) → Sorted p → Sorted (insert F c e p)
  insert-sorted c e [] s = keep-sorted c e [] tt tt
  insert-sorted c e (term d f ∷ p) s =
      place-sorted (order e f) c e d f p (insert F c e p) refl s.0 s.1
      (λ h. insert-above f c e p h s.0 s.1) (insert-sorted c e p s.1)

  -- a term that comes before all others goes in front
  pub insert-front : (c : ℕ) (e : List ℕ) (p : Poly) → 0 < c → Above e p → insert F c e p ≡ term c e ∷ p
  insert-front zero e p h a = absurd (omega arith)
  insert-front (suc c) e [] h a = refl
  insert-front (suc c) e (term d f ∷ p) h a =
      ap (λ (o : Ordering). place F o (suc c) e d f p (insert F (suc c) e p)) a

  -- a canonical list is its own normal form
  pub normal-canon : (p : Poly) → Sorted p → Coefs NonzeroByte p → normal F p ≡ p
  normal-canon [] s h = refl
  normal-canon (term c e ∷ p) s h =
      ap (insert F c e) (normal-canon p s.1 h.1) ∙ insert-front c e p h.0.0 s.0

-- ---- what rests on the laws

module _ (F : Ops) (L : Laws F) where
  open F use {add, mul}
  open L.ring use {add-byte, add_assoc, add-zero}

  -- a term placed leaves the coefficients nonzero bytes
  place-coefs : (o : Ordering) (c : ℕ) (e : List ℕ) (d : ℕ) (f : List ℕ) (p r : Poly) → c < 256 → NonzeroByte d
      → Coefs NonzeroByte p → Coefs NonzeroByte r
      → Coefs NonzeroByte (place F o c e d f p r)
  place-coefs Ordering.lt c e d f p r hc hd hp hr = keep-coefs c e (term d f ∷ p) hc (hd, hp)
  place-coefs Ordering.eq c e d f p r hc hd hp hr = keep-coefs (add c d) e p (add-byte hc hd.1) hp
  place-coefs Ordering.gt c e d f p r hc hd hp hr = (hd, hr)

  -- an insertion leaves the coefficients nonzero bytes
  pub insert-coefs : (c : ℕ) (e : List ℕ) (p : Poly) → c < 256 → Coefs NonzeroByte p
      → Coefs NonzeroByte (insert F c e p)
  insert-coefs c e [] hc hp = keep-coefs c e [] hc tt
  insert-coefs c e (term d f ∷ p) hc hp =
      place-coefs (order e f) c e d f p (insert F c e p) hc hp.0 hp.1 (insert-coefs c e p hc hp.1)

  -- THEOREM: a term inserted into a reduced polynomial gives a reduced polynomial
  pub insert-canon : {n : ℕ} (c : ℕ) (e : List ℕ) {p : Poly} → c < 256 → ByteList n e → Canon n p
      → Canon n (insert F c e p)
  insert-canon {n} c e {p} hc he h = record {
    sorted = insert-sorted F c e p h.sorted;
    coefs = insert-coefs c e p hc h.coefs;
    powers = insert-powers F (ByteList n) c e p he h.powers;
  }

  -- THEOREM: the normal form of any list of terms of bytes is a reduced polynomial
  pub canon-normal : {n : ℕ} (p : Poly) → Raw n p → Canon n (normal F p)
  canon-normal [] h = record { sorted = tt; coefs = tt; powers = tt }
  canon-normal {n} (term c e ∷ p) h =
      insert-canon c e h.coefs.0 h.powers.0 (canon-normal p
      (record { coefs = h.coefs.1; powers = h.powers.1 }))

  -- a sum over terms of a weight that is additive in the coefficient
  module _ (w : ℕ → List ℕ → ℕ) (w-zero : (e : List ℕ) → w 0 e ≡ 0)
      (w-add : (c d : ℕ) (e : List ℕ) → w (add c d) e ≡ add (w c e) (w d e)) where
    -- a term in front adds its weight
    pub keep-total : (c : ℕ) (e : List ℕ) (p : Poly) → total F w (keep c e p) ≡ add (w c e) (total F w p)
    keep-total zero e p = sym (ap (λ (x : ℕ). add x (total F w p)) (w-zero e) ∙ zero-add L.ring (total F w p))
    keep-total (suc c) e p = refl

    -- a term placed adds its weight
    place-total : (o : Ordering) (c : ℕ) (e : List ℕ) (d : ℕ) (f : List ℕ) (p r : Poly) → order e f ≡ o
        → total F w r ≡ add (w c e) (total F w p)
        → total F w (place F o c e d f p r) ≡ add (w c e) (add (w d f) (total F w p))
    place-total Ordering.lt c e d f p r h ih = keep-total c e (term d f ∷ p)
    place-total Ordering.eq c e d f p r h ih =
        keep-total (add c d) e p
        ∙ ap (λ (x : ℕ). add x (total F w p)) (w-add c d e)
        ∙ add_assoc (w c e) (w d e) (total F w p)
        ∙ ap (λ (x : List ℕ). add (w c e) (add (w d x) (total F w p))) (order_same e f h)
    place-total Ordering.gt c e d f p r h ih =
        ap (λ (x : ℕ). add (w d f) x) ih ∙ add_left_comm L.ring (w d f) (w c e) (total F w p)

    -- a term inserted adds its weight
    pub insert-total : (c : ℕ) (e : List ℕ) (p : Poly) → total F w (insert F c e p) ≡ add (w c e) (total F w p)
    insert-total c e [] = keep-total c e []
    insert-total c e (term d f ∷ p) = place-total (order e f) c e d f p (insert F c e p) refl (insert-total c e p)

    -- the normal form has the same sum
    pub normal-total : (p : Poly) → total F w (normal F p) ≡ total F w p
    normal-total [] = refl
    normal-total (term c e ∷ p) = insert-total c e (normal F p) ∙ ap (λ (x : ℕ). add (w c e) x) (normal-total p)

  -- the sum over two lists joined
  pub total_append : (w : ℕ → List ℕ → ℕ) (p q : Poly) → total F w (p ++ q) ≡ add (total F w p) (total F w q)
  total_append w [] q = sym (zero-add L.ring (total F w q))
  total_append w (term c e ∷ p) q =
      ap (λ (x : ℕ). add (w c e) x) (total_append w p q) ∙ sym (add_assoc (w c e) (total F w p) (total F w q))

  -- ---- coefficients

  -- zero adds nothing to a coefficient
  pub only_zero : (o : Ordering) → only o 0 ≡ 0
  only_zero Ordering.lt = refl
  only_zero Ordering.eq = refl
  only_zero Ordering.gt = refl

  -- what a sum adds to a coefficient
  pub only-add : (o : Ordering) (c d : ℕ) → only o (add c d) ≡ add (only o c) (only o d)
  only-add Ordering.lt c d = sym (add-zero 0)
  only-add Ordering.eq c d = refl
  only-add Ordering.gt c d = sym (add-zero 0)

  -- an insertion adds to the coefficient of its powers
  pub coef-insert : (c : ℕ) (e : List ℕ) (p : Poly) (x : List ℕ)
      → coef F (insert F c e p) x ≡ add (only (order e x) c) (coef F p x)
  coef-insert c e p x =
      insert-total (λ d f. only (order f x) d) (λ f. only_zero (order f x)) (λ d d' f. only-add (order f x) d d') c e p

  -- the normal form has the same coefficients
  pub coef-normal : (p : Poly) (x : List ℕ) → coef F (normal F p) x ≡ coef F p x
  coef-normal p x =
      normal-total (λ d f. only (order f x) d) (λ f. only_zero (order f x)) (λ d d' f. only-add (order f x) d d') p

  -- powers that come before a sorted list have no term there
  pub coef-below : (x : List ℕ) (p : Poly) → Above x p → Sorted p → coef F p x ≡ 0
  coef-below x [] a s = refl
  coef-below x (term c e ∷ p) a s =
      ap₂ add (ap (λ (o : Ordering). only o c) (order_lt x e a)) (coef-below x p (above_trans x e p a s.0) s.1)
      ∙ add-zero 0

  -- the first term's coefficient
  pub coef_head : (c : ℕ) (e : List ℕ) (p : Poly) → Above e p → Sorted p → coef F (term c e ∷ p) e ≡ c
  coef_head c e p a s =
      ap₂ add (ap (λ (o : Ordering). only o c) (order_self e)) (coef-below e p a s) ∙ add-zero c

  -- the first coefficient is not zero
  no_zero_head : (c : ℕ) (e : List ℕ) (p : Poly) → 0 < c → Above e p → Sorted p → coef F (term c e ∷ p) e ≡ 0 → ⊥
  no_zero_head c e p h a s z = let q : c ≡ 0 = sym (coef_head c e p a s) ∙ z in omega arith

  -- the two heads are one, and then the tails have the same coefficients
  heads : (o : Ordering) (c d : ℕ) (e f : List ℕ) (p q : Poly) → order e f ≡ o → 0 < c → 0 < d → Sorted (term c e ∷ p)
      → Sorted (term d f ∷ q)
      → ((x : List ℕ) → coef F (term c e ∷ p) x ≡ coef F (term d f ∷ q) x) → (c ≡ d) × (e ≡ f)
  heads Ordering.lt c d e f p q o hc hd s t h =
      absurd (no_zero_head c e p hc s.0 s.1 (h e ∙ coef-below e (term d f ∷ q) o t))
  heads Ordering.gt c d e f p q o hc hd s t h =
      absurd (no_zero_head d f q hd t.0 t.1 (sym (h f) ∙ coef-below f (term c e ∷ p) (order_gt e f o) s))
  heads Ordering.eq c d e f p q o hc hd s t h =
      let r : e ≡ f = order_same e f o in
      (sym (coef_head c e p s.0 s.1) ∙ h e ∙ ap (coef F (term d f ∷ q)) r ∙ coef_head d f q t.0 t.1, r)

  -- THEOREM: reduced polynomials with the same coefficients are the same list
  pub same-coefs : (p q : Poly) → Sorted p → Sorted q → Coefs NonzeroByte p → Coefs NonzeroByte q
      → ((x : List ℕ) → coef F p x ≡ coef F q x) → p ≡ q
  same-coefs [] [] s t hp hq h = refl
  same-coefs [] (term d f ∷ q) s t hp hq h = absurd (no_zero_head d f q hq.0.0 t.0 t.1 (sym (h f)))
  same-coefs (term c e ∷ p) [] s t hp hq h = absurd (no_zero_head c e p hp.0.0 s.0 s.1 (h e))
  same-coefs (term c e ∷ p) (term d f ∷ q) s t hp hq h =
      let r = heads (order e f) c d e f p q refl hp.0.0 hq.0.0 s t h in
      ap₂ ◌∷◌ (ap₂ term r.0 r.1)
      (same-coefs p q s.1 t.1 hp.1 hq.1 (λ x.
      add_cancel L.ring (only (order e x) c) (coef F p x) (coef F q x)
      (h x ∙ ap₂ (λ (k : ℕ) (g : List ℕ). add (only (order g x) k) (coef F q x)) (sym r.0) (sym r.1))))

  -- two lists of terms have one normal form where their coefficients are the same
  pub same-normal : {n : ℕ} (p q : Poly) → Raw n p → Raw n q → ((x : List ℕ) → coef F p x ≡ coef F q x)
      → normal F p ≡ normal F q
  same-normal p q hp hq h =
      let s = canon-normal p hp in
      let t = canon-normal q hq in
      same-coefs (normal F p) (normal F q) s.sorted t.sorted s.coefs t.coefs
      (λ x. coef-normal p x ∙ h x ∙ sym (coef-normal q x))
