-- THEOREM: the value of a reduced polynomial does not depend on a variable exactly where the variable does not occur.
-- With 0 put in for it the polynomial has the same values, and so, by uniqueness, the same terms. Assumes nothing.
use mathlib.Core.Path.{◌≡◌, refl, sym, ap, ap₂, ◌∙◌, subst}
use mathlib.Core.Logic.{◌⊎◌, inl, inr, ⊎_elim}
use mathlib.Core.Bool.{Bool, true, false, ◌||◌}
use mathlib.Core.List.{List, [], ◌∷◌}
use Prim.Native.Nat.{ℕ, zero, suc, ◌+◌, ◌≤◌, ◌<◌}
use native.Mathlib.Omega.{arith}
use native.Mathlib.Nat.{le_of_suc-le-suc}
use lib.Dec.{ltb}
use lib.ListN.{length, get_or, set}
use borrow.Author.Tests.{ltb-true, ltb-false, lt-ltb, le-ltb}
use Rattle.field.specs.Field.{power}
use Rattle.field.specs.Laws.{Ops, Laws}
use Rattle.poly.specs.Poly.{term, Poly}
use Rattle.poly.specs.Value.{mono, eval}
use Rattle.poly.specs.First.{put_slot_raw, put_slot}
use Rattle.poly.specs.Canon.{ByteList, Spare, Powers, Canon}
use Rattle.poly.specs.Occurs.{occurs, some_occurs, Without}
use Rattle.poly.proofs.Laws.Normal.{normal-powers}
use Rattle.poly.proofs.Laws.Put.{canon-put_slot, eval-put_slot}
use Rattle.poly.proofs.Laws.Unique.{terms_unique_spare}

-- ---- the test, and what it says

-- neither of two
or_false : (a b : Bool) → a || b ≡ false → (a ≡ false) × (b ≡ false)
or_false true b h = cc
or_false false b h = (refl, h)

-- a variable that does not occur has no power in the first term, and does not occur in the others
occurs-first : (i c : ℕ) (e : List ℕ) (p : Poly) → occurs i (term c e ∷ p) ≡ false → Without i e × (occurs i p ≡ false)
unfolding occurs
occurs-first i c e p h =
    let k = or_false (ltb 0 (get_or e i 0)) (occurs i p) h in
    let z : get_or e i 0 ≤ 0 = ltb-false 0 (get_or e i 0) k.0 in
    (omega arith, k.1)

-- a variable with a power in the first term occurs
pub occurs-here : (i c : ℕ) (e : List ℕ) (p : Poly) → (get_or e i 0 ≡ 0 → ⊥) → occurs i (term c e ∷ p) ≡ true
unfolding occurs
occurs-here i c e p h = ap (λ (x : Bool). x || occurs i p) (lt-ltb 0 (get_or e i 0) (omega arith))

-- one with none there occurs where it does in the others
pub occurs-later : (i c : ℕ) (e : List ℕ) (p : Poly) → Without i e → occurs i (term c e ∷ p) ≡ occurs i p
unfolding occurs
occurs-later i c e p h = ap (λ (x : Bool). x || occurs i p) (le-ltb 0 (get_or e i 0) (omega arith))

-- where there is no term, none occurs
pub occurs-none : (i : ℕ) → occurs i [] ≡ false
unfolding occurs
occurs-none i = refl

-- a variable that has no power in any term does not occur
without_occurs : (i : ℕ) (p : Poly) → Powers (Without i) p → occurs i p ≡ false
without_occurs i [] h = occurs-none i
without_occurs i (term c e ∷ p) h = occurs-later i c e p h.0 ∙ without_occurs i p h.1

-- none of no variables occurs
pub some_begin : (i : ℕ) (p : Poly) → some_occurs i 0 p ≡ false
unfolding some_occurs
some_begin i p = refl

-- nor does one of k + 1, where none of the first k does and the last does not
pub some-pass : (i k : ℕ) (p : Poly) → some_occurs i k p ≡ false → occurs (i + k) p ≡ false
    → some_occurs i (suc k) p ≡ false
unfolding some_occurs
some-pass i k p h e = ap₂ ◌||◌ h e

-- none of k variables occurs
pub some-none : (i k : ℕ) (p : Poly) → some_occurs i k p ≡ false → (j : ℕ) → j < k → occurs (i + j) p ≡ false
unfolding some_occurs
some-none i zero p h j l = absurd (omega arith)
some-none i (suc k) p h j l =
    let both = or_false (some_occurs i k p) (occurs (i + k) p) h in
    go (ltb j k) refl (some-none i k p both.0 j) both.1
  where
    go : (b : Bool) → ltb j k ≡ b → (j < k → occurs (i + j) p ≡ false) → occurs (i + k) p ≡ false
        → occurs (i + j) p ≡ false
    go true e below at = below (ltb-true j k e)
    go false e below at =
        let z : j ≡ k = omega (arith, ltb-false j k e) in
        ap (λ (x : ℕ). occurs (i + x) p) z ∙ at

-- where each does not occur, none does
pub none-some : (i k : ℕ) (p : Poly) → ((j : ℕ) → j < k → occurs (i + j) p ≡ false) → some_occurs i k p ≡ false
none-some i zero p h = some_begin i p
none-some i (suc k) p h = some-pass i k p (none-some i k p (λ j l. h j (omega arith))) (h k (omega arith))

-- where one occurs, some do
pub some-stop : (i k j : ℕ) (p : Poly) → j < k → occurs (i + j) p ≡ true → some_occurs i k p ≡ true
some-stop i k j p l h = go (some_occurs i k p) refl
  where
    go : (x : Bool) → some_occurs i k p ≡ x → some_occurs i k p ≡ true
    go true e = e
    go false e = let f = some-none i k p e j l in let z : ◌≡◌ {A = ℕ} 0 1 = cc in absurd (omega arith)

-- ---- powers of a variable made zero

-- it has none then
set_without : (i : ℕ) (e : List ℕ) → Without i (set e i 0)
set_without zero [] = refl
set_without (suc i) [] = refl
set_without zero (k ∷ e) = refl
set_without (suc i) (k ∷ e) = set_without i e

-- no variable comes into use
set-spare : (v k i : ℕ) (e : List ℕ) → i < v → Spare v k e → Spare v k (set e i 0)
set-spare zero k i e l h = absurd (omega arith)
set-spare (suc v) k i [] l h = absurd h
set-spare (suc v) k zero (a ∷ e) l h = h
set-spare (suc v) k (suc i) (a ∷ e) l h = set-spare v k i e (le_of_suc-le-suc l) h

-- each term's powers after a byte is put in
put_slot_raw-powers : (F : Ops) (P Q : List ℕ → Type 0) (i a : ℕ) → ((e : List ℕ) → P e → Q (set e i 0)) → (p : Poly)
    → Powers P p → Powers Q (put_slot_raw F i a p)
put_slot_raw-powers F P Q i a g [] h = tt
put_slot_raw-powers F P Q i a g (term c e ∷ p) h = (g e h.0, put_slot_raw-powers F P Q i a g p h.1)

put_slot-powers : (F : Ops) (P Q : List ℕ → Type 0) (i a : ℕ) → ((e : List ℕ) → P e → Q (set e i 0)) → (p : Poly)
    → Powers P p → Powers Q (put_slot F i a p)
put_slot-powers F P Q i a g p h = normal-powers F Q (put_slot_raw F i a p) (put_slot_raw-powers F P Q i a g p h)

-- ---- values

module _ (F : Ops) where
  open F use {add, mul}

  -- a power of either byte
  power-same : (x y k : ℕ) → (k ≡ 0) ⊎ (x ≡ y) → power mul x k ≡ power mul y k
  power-same x y k (inl e) = ap (power mul x) e ∙ ap (power mul y) (sym e)
  power-same x y k (inr e) = ap (λ (z : ℕ). power mul z k) e

  -- a product of powers, where at each place there is no power or the same byte
  mono-same : (e xs ys : List ℕ) → length xs ≡ length ys → ((i : ℕ) → Without i e ⊎ (get_or xs i 0 ≡ get_or ys i 0))
      → mono F e xs ≡ mono F e ys
  mono-same [] xs ys n h = refl
  mono-same (k ∷ e) [] [] n h = refl
  mono-same (k ∷ e) [] (y ∷ ys) n h = absurd (omega arith)
  mono-same (k ∷ e) (x ∷ xs) [] n h = absurd (omega arith)
  mono-same (k ∷ e) (x ∷ xs) (y ∷ ys) n h =
      ap₂ mul (power-same x y k (h 0)) (mono-same e xs ys (omega arith) (λ i. h (suc i)))

  -- THEOREM: the value is the same at bytes that differ only for variables that do not occur
  pub eval-same : (p : Poly) (xs ys : List ℕ) → length xs ≡ length ys
      → ((i : ℕ) → (occurs i p ≡ false) ⊎ (get_or xs i 0 ≡ get_or ys i 0)) → eval F p xs ≡ eval F p ys
  eval-same [] xs ys n h = refl
  eval-same (term c e ∷ p) xs ys n h =
      ap₂ add (ap (mul c) (mono-same e xs ys n (λ i. ⊎_elim (λ z. inl (occurs-first i c e p z).0) inr (h i))))
      (eval-same p xs ys n (λ i. ⊎_elim (λ z. inl (occurs-first i c e p z).1) inr (h i)))

-- THEOREM: a variable for which the byte 0 gives the same value everywhere does not occur
pub same_without : (F : Ops) → Laws F → (v k n i : ℕ) (p : Poly) → v ≤ n → i < v → Canon n p → Powers (Spare v k) p
    → ((xs : List ℕ) → ByteList v xs → eval F p (set xs i 0) ≡ eval F p xs) → occurs i p ≡ false
same_without F L v k n i p j l h u z =
    without_occurs i p
    (subst (Powers (Without i))
    (terms_unique_spare F L v k n (put_slot F i 0 p) p j (canon-put_slot F L i 0 p h) h
    (put_slot-powers F (Spare v k) (Spare v k) i 0 (λ e. set-spare v k i e l) p u) u
    (λ xs b. eval-put_slot F L v i 0 p xs l b ∙ z xs b))
    (put_slot-powers F (ByteList n) (Without i) i 0 (λ e b. set_without i e) p h.powers))
