-- Terms may be inserted in any order: two insertions change places, two of the same powers are one, and a list may be
-- made normal before it is inserted. So the factors of a product change places. Assumes nothing.
use mathlib.Core.Path.{◌≡◌, refl, sym, ap, ap₂, ◌∙◌, subst, subst⁻¹}
use mathlib.Core.List.{List, [], ◌∷◌, ◌++◌}
use Prim.Native.Nat.{ℕ, zero, suc, ◌<◌, Ordering}
use native.Mathlib.Omega.{arith}
use native.Mathlib.Nat.{zero-lt-suc, add_comm as nat-add-comm}
use Rattle.field.specs.Laws.{Ops, Ring}
use Rattle.poly.specs.Poly.{term, Poly, reduce, add_pows, order, keep, place, insert, into, normal, scale, mul_raw}
use Rattle.poly.specs.Poly.{mul_poly}
use Rattle.poly.specs.Canon.{Coefs, Above, Sorted, Nonzero}
use Rattle.field.proofs.Laws.Algebra.{zero-add}
use Rattle.poly.proofs.Laws.Order.{order_self, order_same, order_gt, order_lt, order_trans}
use Rattle.poly.proofs.Laws.Normal.{keep-above, insert-above}
use Rattle.poly.proofs.Laws.Sum.{into-sorted, into_append, into-none, normal-into}

-- ---- no coefficient is zero

-- a coefficient other than zero is kept
pub keep_some : (c : ℕ) (e : List ℕ) (p : Poly) → 0 < c → keep c e p ≡ term c e ∷ p
keep_some zero e p h = absurd (omega arith)
keep_some (suc c) e p h = refl

-- a term in front, unless its coefficient is zero
keep-nonzero : (c : ℕ) (e : List ℕ) (p : Poly) → Coefs Nonzero p → Coefs Nonzero (keep c e p)
keep-nonzero zero e p h = h
keep-nonzero (suc c) e p h = (zero-lt-suc c, h)

module _ (F : Ops) where
  open F use {add, mul}

  -- a term inserted leaves no coefficient of zero
  pub insert-nonzero : (c : ℕ) (e : List ℕ) (p : Poly) → Coefs Nonzero p → Coefs Nonzero (insert F c e p)
  insert-nonzero c e [] h = keep-nonzero c e [] tt
  insert-nonzero c e (term d f ∷ p) h = go (order e f) (insert-nonzero c e p h.1)
    where
      go : (o : Ordering) → Coefs Nonzero (insert F c e p)
          → Coefs Nonzero (place F o c e d f p (insert F c e p))
      go Ordering.lt i = keep-nonzero c e (term d f ∷ p) h
      go Ordering.eq i = keep-nonzero (add c d) e p h.1
      go Ordering.gt i = (h.0, i)

  -- terms inserted leave none
  pub into-nonzero : (p q : Poly) → Coefs Nonzero q → Coefs Nonzero (into F p q)
  into-nonzero [] q h = h
  into-nonzero (term c e ∷ p) q h = insert-nonzero c e (into F p q) (into-nonzero p q h)

  -- the products of a term and two lists joined
  pub scale_append : (c : ℕ) (e : List ℕ) (p q : Poly) → scale F c e (p ++ q) ≡ scale F c e p ++ scale F c e q
  scale_append c e [] q = refl
  scale_append c e (term d f ∷ p) q = ap {B = Poly} (λ r. term (mul c d) (add_pows e f) ∷ r) (scale_append c e p q)

  -- ---- where a term goes

  -- in front of terms that come behind it
  insert-first : (c : ℕ) (e : List ℕ) (p : Poly) → Above e p → insert F c e p ≡ keep c e p
  insert-first c e [] a = refl
  insert-first c e (term d f ∷ p) a = ap (λ (o : Ordering). place F o c e d f p (insert F c e p)) a

  -- behind a term that comes before it
  insert-past : (c : ℕ) (e : List ℕ) (d : ℕ) (f : List ℕ) (p : Poly) → order e f ≡ Ordering.gt
      → insert F c e (keep d f p) ≡ keep d f (insert F c e p)
  insert-past c e zero f p h = refl
  insert-past c e (suc d) f p h = ap (λ (o : Ordering). place F o c e (suc d) f p (insert F c e p)) h

module _ (F : Ops) (R : Ring F) where
  open F use {add, mul}
  open R use {add_comm, add_assoc, add-zero, mul_comm}

  -- onto a term of its powers
  insert-onto : (c : ℕ) (e : List ℕ) (d : ℕ) (p : Poly) → Above e p
      → insert F c e (keep d e p) ≡ keep (add c d) e p
  insert-onto c e zero p a = insert-first F c e p a ∙ ap (λ (x : ℕ). keep x e p) (sym (add-zero c))
  insert-onto c e (suc d) p a =
      ap (λ (o : Ordering). place F o c e (suc d) e p (insert F c e p)) (order_self e)

  -- two terms of the same powers: their sum
  insert-twice : (c d : ℕ) (e : List ℕ) (p : Poly) → Sorted p
      → insert F c e (insert F d e p) ≡ insert F (add c d) e p
  insert-twice c d e [] s = insert-onto c e d [] tt
  insert-twice c d e (term h g ∷ p) s = go (order e g) refl (insert-twice c d e p s.1)
    where
      go : (o : Ordering) → order e g ≡ o → insert F c e (insert F d e p) ≡ insert F (add c d) e p
          → insert F c e (place F o d e h g p (insert F d e p))
          ≡ place F o (add c d) e h g p (insert F (add c d) e p)
      go Ordering.lt q i = insert-onto c e d (term h g ∷ p) q
      go Ordering.eq q i =
          insert-onto c e (add d h) p (subst⁻¹ (λ (x : List ℕ). Above x p) (order_same e g q) s.0)
          ∙ ap (λ (x : ℕ). keep x e p) (sym (add_assoc c d h))
      go Ordering.gt q i =
          ap (λ (o : Ordering). place F o c e h g (insert F d e p) (insert F c e (insert F d e p))) q
          ∙ ap {B = Poly} (λ r. term h g ∷ r) i

  -- two terms change places, where the first comes before the second
  swap_less : (c : ℕ) (e : List ℕ) (d : ℕ) (f : List ℕ) (p : Poly) → order e f ≡ Ordering.lt → Sorted p
      → insert F c e (insert F d f p) ≡ insert F d f (insert F c e p)
  swap_less c e d f [] l s =
      insert-first F c e (keep d f []) (keep-above e d f [] l tt)
      ∙ sym (insert-past F d f c e [] (order_lt e f l))
  swap_less c e d f (term h g ∷ p) l s = go (order e g) refl (swap_less c e d f p l s.1)
    where
      past : order f g ≡ Ordering.gt → insert F d f (term h g ∷ p) ≡ term h g ∷ insert F d f p
      past m = ap (λ (o : Ordering). place F o d f h g p (insert F d f p)) m

      go : (o : Ordering) → order e g ≡ o → insert F c e (insert F d f p) ≡ insert F d f (insert F c e p)
          → insert F c e (insert F d f (term h g ∷ p)) ≡ insert F d f (place F o c e h g p (insert F c e p))
      go Ordering.lt k i =
          insert-first F c e (insert F d f (term h g ∷ p)) (insert-above F e d f (term h g ∷ p) l k s)
          ∙ sym (insert-past F d f c e (term h g ∷ p) (order_lt e f l))
      go Ordering.eq k i =
          let m : order f g ≡ Ordering.gt =
          order_lt g f (subst (λ (x : List ℕ). order x f ≡ Ordering.lt) (order_same e g k) l) in
          ap (insert F c e) (past m)
          ∙ ap (λ (o : Ordering). place F o c e h g (insert F d f p) (insert F c e (insert F d f p))) k
          ∙ sym (insert-past F d f (add c h) e p (order_lt e f l))
      go Ordering.gt k i =
          let m : order f g ≡ Ordering.gt = order_lt g f (order_trans g e f (order_gt e g k) l) in
          ap (insert F c e) (past m)
          ∙ ap (λ (o : Ordering). place F o c e h g (insert F d f p) (insert F c e (insert F d f p))) k
          ∙ ap {B = Poly} (λ r. term h g ∷ r) i
          ∙ sym (ap (λ (o : Ordering). place F o d f h g (insert F c e p) (insert F d f (insert F c e p))) m)

  -- THEOREM: two terms may be inserted in either order
  pub insert_comm : (c : ℕ) (e : List ℕ) (d : ℕ) (f : List ℕ) (p : Poly) → Sorted p
      → insert F c e (insert F d f p) ≡ insert F d f (insert F c e p)
  insert_comm c e d f p s = go (order e f) refl
    where
      go : (o : Ordering) → order e f ≡ o → insert F c e (insert F d f p) ≡ insert F d f (insert F c e p)
      go Ordering.lt k = swap_less c e d f p k s
      go Ordering.eq k =
          ap (λ (x : List ℕ). insert F c e (insert F d x p)) (sym (order_same e f k)) ∙ insert-twice c d e p s
          ∙ ap (λ (x : ℕ). insert F x e p) (add_comm c d) ∙ sym (insert-twice d c e p s)
          ∙ ap (λ (x : List ℕ). insert F d x (insert F c e p)) (order_same e f k)
      go Ordering.gt k = sym (swap_less d f c e p (order_gt e f k) s)

  -- ---- a list made normal first

  -- a coefficient of zero changes nothing
  insert-zero : (e : List ℕ) (p : Poly) → Coefs Nonzero p → insert F 0 e p ≡ p
  insert-zero e [] h = refl
  insert-zero e (term d f ∷ p) h = go (order e f) refl (insert-zero e p h.1)
    where
      go : (o : Ordering) → order e f ≡ o → insert F 0 e p ≡ p → place F o 0 e d f p (insert F 0 e p) ≡ term d f ∷ p
      go Ordering.lt k i = refl
      go Ordering.eq k i =
          ap₂ (λ (x : ℕ) (y : List ℕ). keep x y p) (zero-add R d) (order_same e f k) ∙ keep_some d f p h.0
      go Ordering.gt k i = ap {B = Poly} (λ r. term d f ∷ r) i

  -- a term in front of a list, unless its coefficient is zero
  into-keep : (c : ℕ) (e : List ℕ) (p q : Poly) → Coefs Nonzero (into F p q)
      → into F (keep c e p) q ≡ insert F c e (into F p q)
  into-keep zero e p q h = sym (insert-zero e (into F p q) h)
  into-keep (suc c) e p q h = refl

  -- a term inserted into a list before the list is inserted
  into-insert : (c : ℕ) (e : List ℕ) (p q : Poly) → Sorted q → Coefs Nonzero q
      → into F (insert F c e p) q ≡ insert F c e (into F p q)
  into-insert c e [] q s h = into-keep c e [] q h
  into-insert c e (term d f ∷ p) q s h = go (order e f) refl (into-insert c e p q s h)
    where
      go : (o : Ordering) → order e f ≡ o → into F (insert F c e p) q ≡ insert F c e (into F p q)
          → into F (place F o c e d f p (insert F c e p)) q ≡ insert F c e (insert F d f (into F p q))
      go Ordering.lt k i = into-keep c e (term d f ∷ p) q (into-nonzero F (term d f ∷ p) q h)
      go Ordering.eq k i =
          into-keep (add c d) e p q (into-nonzero F p q h) ∙ sym (insert-twice c d e (into F p q) (into-sorted F p q s))
          ∙ ap (λ (x : List ℕ). insert F c e (insert F d x (into F p q))) (order_same e f k)
      go Ordering.gt k i = ap (insert F d f) i ∙ insert_comm d f c e (into F p q) (into-sorted F p q s)

  -- THEOREM: a list may be made normal before it is inserted
  pub into-normal : (p q : Poly) → Sorted q → Coefs Nonzero q → into F (normal F p) q ≡ into F p q
  into-normal [] q s h = refl
  into-normal (term c e ∷ p) q s h =
      into-insert c e (normal F p) q s h ∙ ap (insert F c e) (into-normal p q s h)

  -- ---- the factors of a product

  -- a term inserted before a list, or behind it
  insert-into-comm : (c : ℕ) (e : List ℕ) (p q : Poly) → Sorted q
      → insert F c e (into F p q) ≡ into F p (insert F c e q)
  insert-into-comm c e [] q s = refl
  insert-into-comm c e (term d f ∷ p) q s =
      insert_comm c e d f (into F p q) (into-sorted F p q s) ∙ ap (insert F d f) (insert-into-comm c e p q s)

  -- one term more behind a list: it is inserted behind the others
  pub into-last : (p : Poly) (c : ℕ) (e : List ℕ) (q : Poly) → Sorted q
      → into F (p ++ (term c e ∷ [])) q ≡ insert F c e (into F p q)
  into-last p c e q s = into_append F p (term c e ∷ []) q ∙ sym (insert-into-comm c e p q s)

  -- two lists may be inserted in either order
  pub into-comm : (p q r : Poly) → Sorted r → into F p (into F q r) ≡ into F q (into F p r)
  into-comm [] q r s = refl
  into-comm (term c e ∷ p) q r s =
      ap (insert F c e) (into-comm p q r s) ∙ insert-into-comm c e q (into F p r) (into-sorted F p r s)

  -- the powers of a product do not depend on the order of its factors
  add_pows-comm : (e f : List ℕ) → add_pows e f ≡ add_pows f e
  add_pows-comm [] [] = refl
  add_pows-comm [] (b ∷ f) = refl
  add_pows-comm (a ∷ e) [] = refl
  add_pows-comm (a ∷ e) (b ∷ f) = ap₂ ◌∷◌ (ap (λ (x : ℕ). reduce x) (nat-add-comm a b)) (add_pows-comm e f)

  -- no term times anything
  mul_raw-none : (p : Poly) → mul_raw F p [] ≡ []
  mul_raw-none [] = refl
  mul_raw-none (term c e ∷ p) = mul_raw-none p

  -- one term more in the right factor
  mul_right : (p : Poly) (d : ℕ) (f : List ℕ) (q : Poly)
      → mul_poly F p (term d f ∷ q) ≡ into F (scale F d f p) (mul_poly F p q)
  mul_right [] d f q = refl
  mul_right (term c e ∷ p) d f q =
      ap₂ (λ (x : ℕ) (y : List ℕ). insert F x y (normal F (scale F c e q ++ mul_raw F p (term d f ∷ q))))
      (mul_comm c d) (add_pows-comm e f)
      ∙ ap (insert F (mul d c) (add_pows f e))
      (normal-into F (scale F c e q) (mul_raw F p (term d f ∷ q))
      ∙ ap (into F (scale F c e q)) (mul_right p d f q)
      ∙ into-comm (scale F c e q) (scale F d f p) (mul_poly F p q) (normal-sorted (mul_raw F p q))
      ∙ ap (into F (scale F d f p)) (sym (normal-into F (scale F c e q) (mul_raw F p q))))
    where
      normal-sorted : (p : Poly) → Sorted (normal F p)
      normal-sorted p = subst Sorted (into-none F p) (into-sorted F p [] tt)

  -- THEOREM: the factors of a product change places
  pub mul_comm_poly : (p q : Poly) → mul_poly F p q ≡ mul_poly F q p
  mul_comm_poly [] q = ap (normal F) (sym (mul_raw-none q))
  mul_comm_poly (term c e ∷ p) q =
      normal-into F (scale F c e q) (mul_raw F p q) ∙ ap (into F (scale F c e q)) (mul_comm_poly p q)
      ∙ sym (mul_right q c e p)
