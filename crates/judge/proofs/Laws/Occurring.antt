-- A variable looked for among the terms of a buffer, among several variables, and a count, by the numbers of a range.
-- Assumes nothing.
use mathlib.Core.Path.{◌≡◌, refl, sym, ap, ap₂, ◌∙◌}
use Prim.Native.Nat.{ℕ, zero, suc, ◌+◌, ◌*◌, ◌-◌}
use native.Mathlib.Omega.{arith}
use native.Mathlib.Numerals.{add-one}
use native.Mathlib.Nat.{suc-mul}
use mathlib.Core.Bool.{Bool, true, false, cond, not, ◌||◌}
use mathlib.Core.List.{List, [], ◌∷◌, ◌++◌}
use lib.Dec.{ltb}
use lib.ListN.{length, take, drop, get_or, length-append}
use lib.Seq.{get_or-take, get_or-drop}
use Rattle.std.proofs.Common.{nat_eq, filter, ne_eqb, lt-ltb, zero-add}
use Rattle.std.specs.List.{range_with_len, list_any}
use Rattle.std.proofs.lemmas.List.Elements.{filter-append}
use Rattle.std.proofs.lemmas.List.Folds.{list_any-append}
use Rattle.poly.specs.Poly.{Poly}
use Rattle.poly.specs.Occurs.{occurs, some_occurs}
use Rattle.buffer.specs.Buffer.{read_terms}
use Rattle.verdict.specs.Idle.{failing}
use Rattle.values.specs.Shelf.{terms_at}
use Rattle.judge.specs.Idle.{Holding}

-- ---- one variable

-- a byte that is not 0
nonzero : (x : ℕ) → not (nat_eq x 0) ≡ ltb 0 x
nonzero zero = refl
nonzero (suc x) = rw (ne_eqb (suc x) 0 (omega arith), lt-ltb 0 (suc x) (omega arith))

module _ {b : List ℕ} {k w : ℕ} (v : ℕ) (A : Holding b k w (v + 1)) where
  -- the power of the variable in term i
  power_at : (i : ℕ) → get_or (take (w - 1) (drop (suc (i * w)) b)) v 0 ≡ get_or b (i * w + v + 1) 0
  power_at i =
      let e : suc (i * w) + v ≡ i * w + v + 1 = omega arith in
      get_or-take (w - 1) (drop (suc (i * w)) b) v 0 (omega (arith, A.powers)) ∙ get_or-drop (suc (i * w)) b v 0
      ∙ ap (λ (x : ℕ). get_or b x 0) e

  -- it occurs in the n terms from term i on where one of them has a power of it
  pub occurs-any : (n i : ℕ)
      → list_any (λ j. not (nat_eq (get_or b (j * w + v + 1) 0) 0)) (range_with_len i n) ≡ occurs v (terms_at w b i n)
  unfolding occurs
  occurs-any zero i = refl
  occurs-any (suc n) i =
      let f : (i + 1) * w ≡ i * w + suc (w - 1) =
      omega (arith, suc-mul i w, ap (λ (x : ℕ). x * w) (add-one i), A.powers) in
      ap₂ (λ (x y : Bool). x || y) (nonzero (get_or b (i * w + v + 1) 0) ∙ ap (ltb 0) (sym (power_at i)))
      (occurs-any n (i + 1) ∙ ap (λ (x : ℕ). occurs v (read_terms (w - 1) b x n)) f)

-- ---- the numbers of a range, the last one apart

range-last : (a n : ℕ) → range_with_len a (suc n) ≡ range_with_len a n ++ (a + n) ∷ []
range-last a zero = ap (λ (x : ℕ). x ∷ []) (let e : a ≡ a + 0 = omega arith in e)
range-last a (suc n) =
    let e : a + 1 + n ≡ a + suc n = omega arith in
    ap {B = List ℕ} (λ l. a ∷ l) (range-last (a + 1) n ∙ ap (λ (x : ℕ). range_with_len (a + 1) n ++ x ∷ []) e)

or-false : (x : Bool) → (x || false) ≡ x
or-false true = refl
or-false false = refl

-- one of the n variables from i on occurs
pub some-any : (p : Poly) (i n : ℕ) → list_any (λ v. occurs v p) (range_with_len i n) ≡ some_occurs i n p
unfolding some_occurs
some-any p i zero = refl
some-any p i (suc n) =
    ap (list_any (λ v. occurs v p)) (range-last i n)
    ∙ list_any-append (λ v. occurs v p) (range_with_len i n) ((i + n) ∷ [])
    ∙ ap₂ (λ (x y : Bool). x || y) (some-any p i n) (or-false (occurs (i + n) p))

-- so many numbers below n fail the test
pub failing-filter : (test : ℕ → Bool) (n : ℕ)
    → length (filter (λ i. not (test i)) (range_with_len 0 n)) ≡ failing n test
unfolding failing
failing-filter test zero = refl
failing-filter test (suc n) =
    let p : ℕ → Bool = λ i. not (test i) in
    let l = range_with_len 0 n in
    ap (λ (x : List ℕ). length (filter p x)) (range-last 0 n ∙ ap (λ (x : ℕ). l ++ x ∷ []) (zero-add n))
    ∙ ap length (filter-append p l (n ∷ [])) ∙ length-append (filter p l) (filter p (n ∷ []))
    ∙ last (length (filter p l)) (failing n test) (test n) (failing-filter test n)
  where
    last : (k m : ℕ) (b : Bool) → k ≡ m → k + length (cond (not b) (n ∷ []) []) ≡ cond b 0 1 + m
    last k m true e = omega arith
    last k m false e = omega arith
