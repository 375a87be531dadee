-- A term is inserted behind the terms that come before it, and in front of the first that does not. Assumes nothing.
use mathlib.Core.Path.{◌≡◌, refl, ap, ◌∙◌}
use mathlib.Core.List.{List, [], ◌∷◌, ◌++◌}
use Prim.Native.Nat.{ℕ, Ordering}
use Rattle.field.specs.Laws.{Ops}
use Rattle.poly.specs.Poly.{term, Poly, order, keep, place, insert}
use Rattle.poly.specs.Canon.{Powers}

-- the terms of the list come before powers e
abbrev pub AllBefore : List ℕ → Poly → Type 0
AllBefore e p = Powers (λ f. order e f ≡ Ordering.gt) p

module _ (F : Ops) where
  open F use {add, mul}

  -- the terms that come before it are passed over
  pub insert_skip : (c : ℕ) (e : List ℕ) (p q : Poly) → AllBefore e p → insert F c e (p ++ q) ≡ p ++ insert F c e q
  insert_skip c e [] q h = refl
  insert_skip c e (term d f ∷ p) q h =
      ap (λ (o : Ordering). place F o c e d f (p ++ q) (insert F c e (p ++ q))) h.0
      ∙ ap {B = Poly} (λ r. term d f ∷ r) (insert_skip c e p q h.1)

  -- in front of a term that comes behind it
  pub insert-before : (c : ℕ) (e : List ℕ) (d : ℕ) (f : List ℕ) (q : Poly) → order e f ≡ Ordering.lt
      → insert F c e (term d f ∷ q) ≡ keep c e (term d f ∷ q)
  insert-before c e d f q h = ap (λ (o : Ordering). place F o c e d f q (insert F c e q)) h

  -- into a term that has its powers
  pub insert-into : (c : ℕ) (e : List ℕ) (d : ℕ) (f : List ℕ) (q : Poly) → order e f ≡ Ordering.eq
      → insert F c e (term d f ∷ q) ≡ keep (add c d) e q
  insert-into c e d f q h = ap (λ (o : Ordering). place F o c e d f q (insert F c e q)) h
