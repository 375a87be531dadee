-- A polynomial in one variable with d coefficients, lowest first, that vanishes at d different bytes has only zero
-- coefficients: a root is divided out, and every other root is one of the quotient. Assumes nothing.
use mathlib.Core.Path.{◌≡◌, refl, sym, ap, ap₂, ◌∙◌, subst}
use mathlib.Core.Logic.{◌≢◌}
use mathlib.Core.List.{List, [], ◌∷◌}
use Prim.Native.Nat.{ℕ, suc, ◌≤◌, ◌<◌}
use native.Mathlib.Omega.{arith}
use native.Mathlib.Nat.{le_of_suc-le-suc, zero-lt-suc}
use lib.ListN.{length}
use Rattle.field.specs.Laws.{Ops, Laws}
use Rattle.field.proofs.Laws.Algebra.{zero-add, add_swap, add_same, add_twice, mul-zero, mul_left_comm}
use Rattle.field.proofs.Laws.Algebra.{distrib-right}

-- each number of a list has P
abbrev pub Each : (ℕ → Type 0) → List ℕ → Type 0
Each P [] = Unit {0}
Each P (a ∷ as') = P a × Each P as'

-- only zeros
abbrev pub AllZero : List ℕ → Type 0
AllZero cs = Each (λ c. c ≡ 0) cs

-- only bytes
abbrev pub AllBytes : List ℕ → Type 0
AllBytes cs = Each (λ c. c < 256) cs

-- no number stands in the list twice
abbrev pub Different : List ℕ → Type 0
Different [] = Unit {0}
Different (r ∷ rs) = Each (λ s. r ≢ s) rs × Different rs

-- what holds of each number may be weakened
pub each_map : {P Q : ℕ → Type 0} → ((a : ℕ) → P a → Q a) → (l : List ℕ) → Each P l → Each Q l
each_map f [] h = tt
each_map f (a ∷ l) h = (f a h.0, each_map f l h.1)

-- two facts of each number together
pub each_zip : {P Q R : ℕ → Type 0} → ((a : ℕ) → P a → Q a → R a) → (l : List ℕ) → Each P l → Each Q l → Each R l
each_zip f [] h k = tt
each_zip f (a ∷ l) h k = (f a h.0 k.0, each_zip f l h.1 k.1)

module _ (F : Ops) where
  open F use {add, mul}

  -- the value, by Horner's rule
  abbrev pub horner : List ℕ → ℕ → ℕ
  horner [] x = 0
  horner (c ∷ cs) x = add c (mul x (horner cs x))

  -- x·cs(x) + r·cs(r) is (x + r) times this
  abbrev divide : ℕ → List ℕ → List ℕ
  divide r [] = []
  divide r (c ∷ cs) = horner (c ∷ cs) r ∷ divide r cs

  -- the quotient has as many coefficients
  length-divide : (r : ℕ) (cs : List ℕ) → length (divide r cs) ≡ length cs
  length-divide r [] = refl
  length-divide r (c ∷ cs) = ap suc (length-divide r cs)

module _ (F : Ops) (L : Laws F) where
  open F use {add, mul}
  open L.ring use {add-byte, add_comm, add_assoc, add-zero, add_self, mul-byte, mul_comm, mul_assoc, distrib}

  -- the value is a byte
  horner-byte : (cs : List ℕ) (x : ℕ) → AllBytes cs → horner F cs x < 256
  horner-byte [] x h = zero-lt-suc 255
  horner-byte (c ∷ cs) x h = add-byte h.0 (mul-byte x (horner F cs x))

  -- the quotient's coefficients are bytes
  divide-bytes : (r : ℕ) (cs : List ℕ) → AllBytes cs → AllBytes (divide F r cs)
  divide-bytes r [] h = tt
  divide-bytes r (c ∷ cs) h = (horner-byte (c ∷ cs) r h, divide-bytes r cs h.1)

  -- zero coefficients give zero
  horner-zero : (cs : List ℕ) (x : ℕ) → AllZero cs → horner F cs x ≡ 0
  horner-zero [] x h = refl
  horner-zero (c ∷ cs) x h = ap₂ add h.0 (ap (mul x) (horner-zero cs x h.1) ∙ mul-zero L.ring x) ∙ add-zero 0

  -- where c + x·u is v at x and c + r·w is z at r, the difference of the two is that of x·u and r·w
  differ : (c a b : ℕ) → add (add c a) (add c b) ≡ add a b
  differ c a b = add_swap L.ring c a c b ∙ ap (λ (x : ℕ). add x (add a b)) (add_self c)
      ∙ zero-add L.ring (add a b)

  -- x·v + r·z is (x + r)·z + x·(v + z)
  regroup : (x r v z : ℕ) → add (mul x v) (mul r z) ≡ add (mul (add x r) z) (mul x (add v z))
  regroup x r v z =
      sym (
      ap₂ add (distrib-right L.ring x r z) (distrib x v z)
      ∙ ap₂ add (add_comm (mul x z) (mul r z)) (add_comm (mul x v) (mul x z))
      ∙ add_assoc (mul r z) (mul x z) (add (mul x z) (mul x v))
      ∙ ap (add (mul r z)) (add_twice L.ring (mul x z) (mul x v))
      ∙ add_comm (mul r z) (mul x v))

  -- x·cs(x) + r·cs(r) is (x + r) times the quotient
  divided : (r x : ℕ) (cs : List ℕ) → add (mul x (horner F cs x)) (mul r (horner F cs r))
      ≡ mul (add x r) (horner F (divide F r cs) x)
  divided r x [] = ap₂ add (mul-zero L.ring x) (mul-zero L.ring r) ∙ add-zero 0
      ∙ sym (mul-zero L.ring (add x r))
  divided r x (c ∷ cs) =
      regroup x r (horner F (c ∷ cs) x) (horner F (c ∷ cs) r)
      ∙ ap (λ (y : ℕ). add (mul (add x r) (horner F (c ∷ cs) r)) (mul x y))
      (differ c (mul x (horner F cs x)) (mul r (horner F cs r)) ∙ divided r x cs)
      ∙ ap (add (mul (add x r) (horner F (c ∷ cs) r)))
      (mul_left_comm L.ring x (add x r) (horner F (divide F r cs) x))
      ∙ sym (distrib (add x r) (horner F (c ∷ cs) r) (mul x (horner F (divide F r cs) x)))

  -- a quotient of zeros came of zeros
  divide-zero : (r : ℕ) (cs : List ℕ) → AllZero (divide F r cs) → AllZero cs
  divide-zero r [] h = tt
  divide-zero r (c ∷ cs) h =
      let t = divide-zero r cs h.1 in
      (sym (add-zero c) ∙ ap (add c) (sym (ap (mul r) (horner-zero cs r t) ∙ mul-zero L.ring r)) ∙ h.0, t)

  -- another root is a root of the quotient
  root_left : (r c : ℕ) (cs : List ℕ) → r < 256 → AllBytes cs → horner F (c ∷ cs) r ≡ 0
      → (s : ℕ) → (s < 256) × (r ≢ s) → horner F (c ∷ cs) s ≡ 0 → horner F (divide F r cs) s ≡ 0
  root_left r c cs hr hc zr s hs zs =
      L.no_zero (add s r) (horner F (divide F r cs) s) (add-byte hs.0 hr)
      (horner-byte (divide F r cs) s (divide-bytes r cs hc))
      (λ e. hs.1 (sym (add_same L.ring s r e)))
      (sym (divided r s cs) ∙ sym (differ c (mul s (horner F cs s)) (mul r (horner F cs r))) ∙ ap₂ add zs zr
      ∙ add-zero 0)

  -- THEOREM: as many different roots as coefficients leave only zeros
  pub roots : (rs cs : List ℕ) → AllBytes rs → Different rs → AllBytes cs → length cs ≤ length rs
      → Each (λ r. horner F cs r ≡ 0) rs → AllZero cs
  roots [] [] hr d hc l z = tt
  roots [] (c ∷ cs) hr d hc l z = absurd (omega arith)
  roots (r ∷ rs) [] hr d hc l z = tt
  roots (r ∷ rs) (c ∷ cs) hr d hc l z =
      let q = roots rs (divide F r cs) hr.1 d.1 (divide-bytes r cs hc.1)
      (subst (λ (k : ℕ). k ≤ length rs) (sym (length-divide F r cs)) (le_of_suc-le-suc l))
      (each_zip (root_left r c cs hr.0 hc.1 z.0) rs (each_zip (λ s h k. (h, k)) rs hr.1 d.0) z.1) in
      let t = divide-zero r cs q in
      (sym (add-zero c) ∙ ap (add c) (sym (ap (mul r) (horner-zero cs r t) ∙ mul-zero L.ring r)) ∙ z.0, t)
