-- The order of powers is a total order: `order e f` says which comes first, or that they are the same. The tails
-- decide, and the heads where the tails are the same. Assumes nothing.
use mathlib.Core.Path.{◌≡◌, refl, sym, ap, ap₂, ◌∙◌, subst, subst⁻¹}
use mathlib.Core.Logic.{◌⊎◌, inl, inr}
use mathlib.Core.List.{List, [], ◌∷◌}
use Prim.Native.Nat.compare
use Prim.Native.Nat.{ℕ, zero, suc, compare, Ordering}
use Rattle.poly.specs.Poly.{or_else, order}

-- ---- the three answers are different

-- `eq` is not `lt`
pub eq≢lt : Ordering.eq ≡ Ordering.lt → ⊥
eq≢lt h = cc

-- `gt` is not `lt`
pub gt≢lt : Ordering.gt ≡ Ordering.lt → ⊥
gt≢lt h = cc

-- ---- numbers

-- a number compares with itself as equal
compare_self : (a : ℕ) → compare a a ≡ Ordering.eq
compare_self zero = compare.zero-zero
compare_self (suc a) = compare.suc-suc a a ∙ compare_self a

-- numbers that compare as equal are the same
pub compare_same : (a b : ℕ) → compare a b ≡ Ordering.eq → a ≡ b
compare_same zero zero h = refl
compare_same zero (suc b) h = cc (compare.zero-suc b)
compare_same (suc a) zero h = cc (compare.suc-zero a)
compare_same (suc a) (suc b) h = ap suc (compare_same a b (sym (compare.suc-suc a b) ∙ h))

-- the answer from the other side: what comes first comes behind
abbrev turned : Ordering → Ordering
turned Ordering.lt = Ordering.gt
turned Ordering.eq = Ordering.eq
turned Ordering.gt = Ordering.lt

-- numbers compared from the other side
compare-turned : (a b : ℕ) → compare b a ≡ turned (compare a b)
compare-turned zero zero = compare.zero-zero ∙ ap turned (sym compare.zero-zero)
compare-turned zero (suc b) = compare.suc-zero b ∙ ap turned (sym (compare.zero-suc b))
compare-turned (suc a) zero = compare.zero-suc a ∙ ap turned (sym (compare.suc-zero a))
compare-turned (suc a) (suc b) =
    compare.suc-suc b a ∙ compare-turned a b ∙ ap turned (sym (compare.suc-suc a b))

-- below, and below again
compare_trans : (a b c : ℕ) → compare a b ≡ Ordering.lt → compare b c ≡ Ordering.lt → compare a c ≡ Ordering.lt
compare_trans zero zero c h k = cc compare.zero-zero
compare_trans (suc a) zero c h k = cc (compare.suc-zero a)
compare_trans zero (suc b) zero h k = cc (compare.suc-zero b)
compare_trans zero (suc b) (suc c) h k = compare.zero-suc c
compare_trans (suc a) (suc b) zero h k = cc (compare.suc-zero b)
compare_trans (suc a) (suc b) (suc c) h k =
    compare.suc-suc a c ∙ compare_trans a b c (sym (compare.suc-suc a b) ∙ h) (sym (compare.suc-suc b c) ∙ k)

-- ---- powers: the tail decides, and the head where the tails are one

-- a second answer that is `eq` changes nothing
pub or_else_eq : (o : Ordering) → or_else o Ordering.eq ≡ o
or_else_eq Ordering.lt = refl
or_else_eq Ordering.eq = refl
or_else_eq Ordering.gt = refl

-- what it is that comes first: the tail, or the head where the tails are the same
lt_cases : (o r : Ordering) → or_else o r ≡ Ordering.lt → (o ≡ Ordering.lt) ⊎ ((o ≡ Ordering.eq) × (r ≡ Ordering.lt))
lt_cases Ordering.lt r h = inl refl
lt_cases Ordering.eq r h = inr (refl, h)
lt_cases Ordering.gt r h = cc

-- both answers from the other side
or_else-turned : (o r : Ordering) → or_else (turned o) (turned r) ≡ turned (or_else o r)
or_else-turned Ordering.lt r = refl
or_else-turned Ordering.eq r = refl
or_else-turned Ordering.gt r = refl

-- equal answers are equal twice
eq_cases : (o r : Ordering) → or_else o r ≡ Ordering.eq → (o ≡ Ordering.eq) × (r ≡ Ordering.eq)
eq_cases Ordering.lt r h = cc
eq_cases Ordering.eq r h = (refl, h)
eq_cases Ordering.gt r h = cc

-- the same first answer gives the same answer
tail_decides : {o o' : Ordering} (r : Ordering) → o ≡ o' → or_else o r ≡ or_else o' r
tail_decides r h = ap (λ (o : Ordering). or_else o r) h

-- powers are the same as themselves
pub order_self : (e : List ℕ) → order e e ≡ Ordering.eq
order_self [] = refl
order_self (a ∷ e) = tail_decides (compare a a) (order_self e) ∙ compare_self a

-- powers that compare as equal are the same list
pub order_same : (e f : List ℕ) → order e f ≡ Ordering.eq → e ≡ f
order_same [] [] h = refl
order_same [] (b ∷ f) h = cc
order_same (a ∷ e) [] h = cc
order_same (a ∷ e) (b ∷ f) h =
    let c = eq_cases (order e f) (compare a b) h in ap₂ ◌∷◌ (compare_same a b c.1) (order_same e f c.0)

-- powers compared from the other side
order-turned : (e f : List ℕ) → order f e ≡ turned (order e f)
order-turned [] [] = refl
order-turned [] (b ∷ f) = refl
order-turned (a ∷ e) [] = refl
order-turned (a ∷ e) (b ∷ f) =
    ap₂ or_else (order-turned e f) (compare-turned a b) ∙ or_else-turned (order e f) (compare a b)

-- powers that come behind others: the others come first
pub order_gt : (e f : List ℕ) → order e f ≡ Ordering.gt → order f e ≡ Ordering.lt
order_gt e f h = order-turned e f ∙ ap turned h

-- powers that come before others: the others come behind
pub order_lt : (e f : List ℕ) → order e f ≡ Ordering.lt → order f e ≡ Ordering.gt
order_lt e f h = order-turned e f ∙ ap turned h

-- before, and before again
pub order_trans : (e f g : List ℕ) → order e f ≡ Ordering.lt → order f g ≡ Ordering.lt → order e g ≡ Ordering.lt
order_trans [] [] g h k = cc
order_trans [] (b ∷ f) [] h k = cc
order_trans [] (b ∷ f) (c ∷ g) h k = refl
order_trans (a ∷ e) [] g h k = cc
order_trans (a ∷ e) (b ∷ f) [] h k = cc
order_trans (a ∷ e) (b ∷ f) (c ∷ g) h k =
    go (order_trans e f g) (lt_cases (order e f) (compare a b) h) (lt_cases (order f g) (compare b c) k)
  where
    go : (order e f ≡ Ordering.lt → order f g ≡ Ordering.lt → order e g ≡ Ordering.lt)
        → (order e f ≡ Ordering.lt) ⊎ ((order e f ≡ Ordering.eq) × (compare a b ≡ Ordering.lt))
        → (order f g ≡ Ordering.lt) ⊎ ((order f g ≡ Ordering.eq) × (compare b c ≡ Ordering.lt))
        → or_else (order e g) (compare a c) ≡ Ordering.lt
    go ih (inl x) (inl y) = tail_decides (compare a c) (ih x y)
    go ih (inl x) (inr y) =
        tail_decides (compare a c) (subst (λ (z : List ℕ). order e z ≡ Ordering.lt) (order_same f g y.0) x)
    go ih (inr x) (inl y) =
        tail_decides (compare a c) (subst⁻¹ (λ (z : List ℕ). order z g ≡ Ordering.lt) (order_same e f x.0) y)
    go ih (inr x) (inr y) =
        tail_decides (compare a c) (subst⁻¹ (λ (z : List ℕ). order z g ≡ Ordering.eq) (order_same e f x.0) y.0)
        ∙ compare_trans a b c x.1 y.1
