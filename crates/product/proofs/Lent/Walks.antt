-- The terms in front of a buffer walked one after another, w bytes each, from the first or from the last: what is left,
-- and which bytes come. Assumes nothing.
use mathlib.Core.Path.{◌≡◌, sym, ap, ap₂, ◌∙◌, subst}
use mathlib.Core.Logic.{◌⊎◌, inl, inr}
use mathlib.Core.List.{List, [], ◌∷◌, ◌++◌}
use Prim.Native.Nat.{ℕ, zero, suc, ◌+◌, ◌*◌, ◌-◌, ◌%◌, ◌≤◌, ◌<◌}
use native.Mathlib.Omega.{arith}
use native.Mathlib.Nat.{zero-mul, suc-mul, mul-le-mul_right, mul-mod_left, eq-or-lt_of_le}
use lib.ListN.{length, take, drop, length-append, length-drop}
use lib.Seq.{length-take-le, take-append_seam, drop-append_seam, drop-drop}
use Rattle.std.proofs.lemmas.List.{take-take, drop-take}
use Rattle.buffer.proofs.Lent.Strides.{row_end, next_row}

module _ (b : List ℕ) (k w : ℕ) (pos : 0 < w) (fits : k * w ≤ length b) where
  -- fewer terms fit as well
  pub fewer_fits : (j : ℕ) → j ≤ k → j * w ≤ length b
  fewer_fits j l = omega (arith, mul-le-mul_right w l, fits)

  -- ---- from the last: the first j are left

  -- at first all are left
  pub last_all : (rem rest : List ℕ) → take (k * w) b ≡ rem ++ rest → length rem ≡ length (take (k * w) b) % w
      → rest ≡ take (k * w) b
  last_all rem rest e l = go rem e (l ∙ ap (λ (x : ℕ). x % w) (length-take-le (k * w) b fits) ∙ mul-mod_left k w)
    where
      go : (rem : List ℕ) → take (k * w) b ≡ rem ++ rest → length rem ≡ 0 → rest ≡ take (k * w) b
      go [] e z = sym e
      go (x ∷ rem) e z = absurd (omega arith)

  -- the j-th comes, which is the last that is left
  pub last_next : (j : ℕ) (rest rest' x : List ℕ) → j ≤ k → rest ≡ take (j * w) b → rest ≡ rest' ++ x → length x ≡ w
      → (0 < j) × (rest' ≡ take ((j - 1) * w) b) × (x ≡ take ((j - 1) * w + w - (j - 1) * w) (drop ((j - 1) * w) b))
  last_next zero rest rest' x l h e s =
      absurd (omega (
        arith,
        ap length e,
        length-append rest' x,
        ap length h,
        length-take-le (zero * w) b (fewer_fits zero l),
        zero-mul w,
      ))
  last_next (suc j) rest rest' x l h e s =
      let u : suc j * w ≡ j * w + w = suc-mul j w in
      let n : length rest' ≡ j * w =
      omega (
        arith,
        ap length e,
        length-append rest' x,
        ap length h,
        length-take-le (suc j * w) b (fewer_fits (suc j) l),
      ) in
      let y : suc j - 1 ≡ j = omega arith in
      let a : take (j * w + w) b ≡ rest' ++ x = ap (λ (z : ℕ). take z b) (sym u) ∙ sym h ∙ e in
      let z : j * w + w - j * w ≡ w = omega arith in
      subst (λ (i : ℕ). (0 < suc j) × (rest' ≡ take (i * w) b) × (x ≡ take (i * w + w - i * w) (drop (i * w) b)))
      (sym y) (
        omega arith,
        sym (take-append_seam rest' x) ∙ ap₂ (λ (i : ℕ) (v : List ℕ). take i v) n (sym a)
            ∙ take-take (j * w) (j * w + w) b (omega arith),
        sym (drop-append_seam rest' x) ∙ ap₂ (λ (i : ℕ) (v : List ℕ). drop i v) n (sym a)
            ∙ drop-take (j * w) w b ∙ ap (λ (i : ℕ). take i (drop (j * w) b)) (sym z),
      )

  -- where less than a term is left none is
  pub last_none : (j : ℕ) (rest : List ℕ) → j ≤ k → rest ≡ take (j * w) b → length rest < w → j ≡ 0
  last_none zero rest l h g = omega arith
  last_none (suc j) rest l h g =
      absurd (omega (arith, ap length h, length-take-le (suc j * w) b (fewer_fits (suc j) l), suc-mul j w))

  -- ---- from the first: those from the j-th on are left

  -- how many bytes are left
  left_length : (j : ℕ) (rest : List ℕ) → rest ≡ drop (j * w) (take (k * w) b) → length rest ≡ k * w - j * w
  left_length j rest h =
      ap length h ∙ length-drop (j * w) (take (k * w) b)
      ∙ ap (λ (x : ℕ). x - j * w) (length-take-le (k * w) b fits)

  -- the j-th comes
  pub first_next : (j : ℕ) (rest rest' x : List ℕ) → j ≤ k → rest ≡ drop (j * w) (take (k * w) b) → rest ≡ x ++ rest'
      → length x ≡ w
      → (j < k) × (rest' ≡ drop ((j + 1) * w) (take (k * w) b)) × (x ≡ take (j * w + w - j * w) (drop (j * w) b))
  first_next j rest rest' x l h e s =
      let n : length rest ≡ k * w - j * w = left_length j rest h in
      let m : length rest ≡ w + length rest' =
      ap length e ∙ length-append x rest' ∙ ap (λ (y : ℕ). y + length rest') s in
      let g : j < k = less (eq-or-lt_of_le l) n m in
      let u : j * w + w ≤ k * w = row_end j k w g in
      let f : k * w ≡ j * w + (k * w - j * w) = omega arith in
      let z : j * w + w - j * w ≡ w = omega arith in (
        g,
        sym (drop-append_seam x rest') ∙ ap₂ (λ (i : ℕ) (v : List ℕ). drop i v) s (sym e ∙ h)
            ∙ drop-drop w (j * w) (take (k * w) b) ∙ ap (λ (y : ℕ). drop y (take (k * w) b)) (sym (next_row j w)),
        sym (take-append_seam x rest') ∙ ap₂ (λ (i : ℕ) (v : List ℕ). take i v) s (sym e ∙ h)
            ∙ ap (λ (y : ℕ). take w (drop (j * w) (take y b))) f
            ∙ ap (take w) (drop-take (j * w) (k * w - j * w) b)
            ∙ take-take w (k * w - j * w) (drop (j * w) b) (omega arith)
            ∙ ap (λ (i : ℕ). take i (drop (j * w) b)) (sym z),
      )
    where
      less : (j ≡ k) ⊎ (j < k) → length rest ≡ k * w - j * w → length rest ≡ w + length rest' → j < k
      less (inl i) n m = absurd (omega (arith, ap (λ (y : ℕ). y * w) i))
      less (inr i) n m = i

  -- where less than a term is left none is
  pub first_none : (j : ℕ) (rest : List ℕ) → j ≤ k → rest ≡ drop (j * w) (take (k * w) b) → length rest < w → k ≤ j
  first_none j rest l h g = go (eq-or-lt_of_le l)
    where
      go : (j ≡ k) ⊎ (j < k) → k ≤ j
      go (inl i) = omega arith
      go (inr i) = absurd (omega (arith, left_length j rest h, row_end j k w i))
