-- Two sorted lists merged: which term comes first, and what is left. So terms inserted one by one are merged in one
-- pass. Assumes nothing.
use mathlib.Core.Path.{◌≡◌, refl, ap, ◌∙◌, subst}
use mathlib.Core.List.{List, [], ◌∷◌}
use Prim.Native.Nat.{ℕ, ◌<◌, Ordering}
use Rattle.field.specs.Laws.{Ops}
use Rattle.poly.specs.Poly.{term, Poly, order, keep, place, insert, into}
use Rattle.poly.specs.Canon.{Above, Sorted}
use Rattle.poly.proofs.Laws.Order.{order_same, order_gt, order_lt}
use Rattle.poly.proofs.Laws.Normal.{above_trans, insert-above, insert-front}
use Rattle.poly.proofs.Laws.Sum.{into-sorted}

module _ (F : Ops) where
  open F use {add, mul}

  -- powers that come before two sorted lists come before the one inserted into the other
  into-above : (x : List ℕ) (p q : Poly) → Above x p → Sorted p → Above x q → Sorted q → Above x (into F p q)
  into-above x [] q a s b t = b
  into-above x (term c e ∷ p) q a s b t =
      insert-above F x c e (into F p q) a (into-above x p q (above_trans x e p a s.0) s.1 b t)
      (into-sorted F p q t)

  -- a term that comes before a sorted list stays in front where the list is inserted
  into-behind : (p : Poly) (d : ℕ) (f : List ℕ) (q : Poly) → Above f p → Sorted p
      → into F p (term d f ∷ q) ≡ term d f ∷ into F p q
  into-behind [] d f q a s = refl
  into-behind (term c e ∷ p) d f q a s =
      ap (insert F c e) (into-behind p d f q (above_trans f e p a s.0) s.1)
      ∙ ap (λ (o : Ordering). place F o c e d f (into F p q) (insert F c e (into F p q))) (order_lt f e a)

  -- the first term of the list that is inserted comes first
  pub merge_less : (c : ℕ) (e : List ℕ) (p q : Poly) → 0 < c → Sorted (term c e ∷ p) → Above e q → Sorted q
      → into F (term c e ∷ p) q ≡ term c e ∷ into F p q
  merge_less c e p q h s a t = insert-front F c e (into F p q) h (into-above e p q s.0 s.1 a t)

  -- the first term of the other list comes first
  pub merge_more : (c : ℕ) (e : List ℕ) (p : Poly) (d : ℕ) (f : List ℕ) (q : Poly) → order e f ≡ Ordering.gt
      → Sorted (term c e ∷ p) → into F (term c e ∷ p) (term d f ∷ q) ≡ term d f ∷ into F (term c e ∷ p) q
  merge_more c e p d f q o s = into-behind (term c e ∷ p) d f q (order_gt e f o) s

  -- the two have the same powers: they are joined, and a coefficient of zero goes
  pub merge_same : (c : ℕ) (e : List ℕ) (p : Poly) (d : ℕ) (f : List ℕ) (q : Poly) → order e f ≡ Ordering.eq
      → Sorted (term c e ∷ p) → into F (term c e ∷ p) (term d f ∷ q) ≡ keep (add c d) e (into F p q)
  merge_same c e p d f q o s =
      ap (insert F c e)
      (into-behind p d f q (subst (λ (x : List ℕ). Above x p) (order_same e f o) s.0) s.1)
      ∙ ap (λ (o : Ordering). place F o c e d f (into F p q) (insert F c e (into F p q))) o
