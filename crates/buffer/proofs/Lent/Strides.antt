-- Rows of w bytes, one behind the other: the i-th of m lies below the end. Assumes nothing.
use mathlib.Core.Path.{◌≡◌, refl, sym, ap, ◌∙◌, subst}
use Prim.Native.Nat.{ℕ, zero, suc, ◌+◌, ◌-◌, ◌*◌, ◌/◌, ◌≤◌, ◌<◌}
use native.Mathlib.Nat.{suc-mul, mul-le-mul_right, mul-le-mul_left, mul-one, zero-lt-suc, not-suc-le-zero}
use native.Mathlib.Numerals.{add-one}
use native.Mathlib.Omega.{arith}

-- the i-th row of m ends within them
pub row_end : (i m w : ℕ) → i < m → i * w + w ≤ m * w
row_end i m w h = subst (λ (x : ℕ). x ≤ m * w) (suc-mul i w) (mul-le-mul_right w h)

-- the end of the i-th row
pub next_row : (i w : ℕ) → (i + 1) * w ≡ i * w + w
next_row i w = ap (λ (x : ℕ). x * w) (add-one i) ∙ suc-mul i w

-- rows that are not empty are no more than their bytes
pub row_count : (m w : ℕ) → 0 < w → m ≤ m * w
row_count m w h = subst (λ (x : ℕ). x ≤ m * w) (mul-one m) (mul-le-mul_left m h)

-- a number other than zero is above it
pub pos_of_ne : (x : ℕ) → (x ≡ 0 → ⊥) → 0 < x
pos_of_ne zero h = absurd (h refl)
pos_of_ne (suc x) h = zero-lt-suc x

-- the row before the j-th
pub back-row : (j w : ℕ) → 0 < j → (j - 1) * w + w ≡ j * w
back-row zero w h = absurd (not-suc-le-zero h)
back-row (suc j) w h =
    let e : suc j - 1 ≡ j = omega arith in
    ap (λ (x : ℕ). x * w + w) e ∙ sym (suc-mul j w)

-- the middle of low and high, and its row
pub halfway : (low high : ℕ) → low < high → low + (high - low) / 2 < high
halfway low high h = omega arith

-- the middle row stands in the buffer
pub half-row : (low high m w len : ℕ) → low < high → high ≤ m → m * w ≤ len → (low + (high - low) / 2) * w + w ≤ len
half-row low high m w len h k f =
    let g : low + (high - low) / 2 < m = omega (arith, halfway low high h) in
    omega (arith, row_end (low + (high - low) / 2) m w g)
