-- One turn of each loop of the code, as an equation between definitions.
-- Assumes nothing.
use mathlib.Core.Path.{◌≡◌, sym, ap, ◌∙◌}
use Prim.Native.Nat.{ℕ, zero, suc, ◌+◌, ◌-◌, ◌*◌, ◌/◌, ◌%◌, ◌^◌, ◌<◌, ◌≤◌}
use native.Mathlib.Nat.{not-suc-le-zero, zero-mul, one-mul}
use native.Mathlib.Omega.{arith}
use mathlib.Core.List.{List}
use native.Mathlib.Numerals.{add-one}
use lib.Bits.{bit_xor}
use lib.ListN.{get_or}
use lib.Pow.{shr-shr}
use Rattle.field.specs.Xor.{◌⊕◌}
use Rattle.field.specs.Field.{double, shifted, times, power, squared}
use Rattle.field.specs.Maps.{sum, dual_of}
use Rattle.field.proofs.Laws.Xor.{⊕-assoc, ⊕-left-comm, zero-⊕}
use Rattle.field.proofs.Laws.Ring.{ring}
use Rattle.field.proofs.Laws.Powers.{power-suc, power-square}

-- ---- doubling

-- doubling below 128 only moves the bits
pub double-low : (m a : ℕ) → a < 128 → a % 128 * 2 ≡ double m a
unfolding double
double-low m a h =
    let q : a / 128 % 2 ≡ 0 = omega arith in
    sym (ap (λ (x : ℕ). x * m ⊕ a % 128 * 2) q ∙ ap (λ (x : ℕ). x ⊕ a % 128 * 2) (zero-mul m) ∙ zero-⊕ (a % 128 * 2))

-- doubling from 128 on brings bit 7 back as m
pub double-high : (m a : ℕ) → 128 ≤ a → a < 256 → bit_xor m (a % 128 * 2) ≡ double m a
unfolding double ◌⊕◌
double-high m a h l =
    let q : a / 128 % 2 ≡ 1 = omega arith in
    sym (ap (λ (x : ℕ). bit_xor (x * m) (a % 128 * 2)) q ∙ ap (λ (x : ℕ). bit_xor x (a % 128 * 2)) (one-mul m))

-- ---- the product

module _ (m : ℕ) where
  next : (n x y : ℕ) → 0 < n → shifted m n x y ≡ y % 2 * x ⊕ shifted m (n - 1) (double m x) (y / 2)
  unfolding shifted
  next zero x y h = absurd (not-suc-le-zero h)
  next (suc n) x y h =
      let p : suc n - 1 ≡ n = omega arith in
      ap (λ (k : ℕ). y % 2 * x ⊕ shifted m k (double m x) (y / 2)) (sym p)

  -- one turn of the product's loop where the bit is set
  pub bit-set : (n sum x y : ℕ) → 0 < n → y % 2 ≡ 1
      → sum ⊕ x ⊕ shifted m (n - 1) (double m x) (y / 2) ≡ sum ⊕ shifted m n x y
  bit-set n sum x y h p =
      ⊕-assoc sum x (shifted m (n - 1) (double m x) (y / 2))
      ∙ ap (λ (z : ℕ). sum ⊕ (z ⊕ shifted m (n - 1) (double m x) (y / 2))) (sym (ap (λ (b : ℕ). b * x) p ∙ one-mul x))
      ∙ ap (λ z. sum ⊕ z) (sym (next n x y h))

  -- and where it is not
  pub bit_clear : (n sum x y : ℕ) → 0 < n → (y % 2 ≡ 1 → ⊥)
      → sum ⊕ shifted m (n - 1) (double m x) (y / 2) ≡ sum ⊕ shifted m n x y
  bit_clear n sum x y h p =
      let q : y % 2 ≡ 0 = omega arith in
      ap (λ z. sum ⊕ z) (sym (next n x y h ∙ ap (λ (b : ℕ). b * x ⊕ shifted m (n - 1) (double m x) (y / 2)) q
      ∙ ap (λ (b : ℕ). b ⊕ shifted m (n - 1) (double m x) (y / 2)) (zero-mul x)
      ∙ zero-⊕ (shifted m (n - 1) (double m x) (y / 2))))

-- ---- powers

module _ (m : ℕ) (hm : m < 256) where
  -- one turn of the power's loop where the exponent is odd
  pub power-odd : (r x n : ℕ) → n % 2 ≡ 1 → times m (times m r x) (power (times m) (times m x x) (n / 2)) ≡ times m r
      (power (times m) x n)
  power-odd r x n p =
      let q : suc (n / 2 + n / 2) ≡ n = omega arith in
      (ring m hm).mul_assoc r x (power (times m) (times m x x) (n / 2))
      ∙ ap (times m r) (ap (times m x) (power-square (ring m hm) x (n / 2))
      ∙ sym (power-suc (times m) x (n / 2 + n / 2)) ∙ ap (power (times m) x) q)

  -- and where it is even
  pub power_even : (r x n : ℕ) → (n % 2 ≡ 1 → ⊥) → times m r (power (times m) (times m x x) (n / 2)) ≡ times m r
      (power (times m) x n)
  power_even r x n p =
      let q : n / 2 + n / 2 ≡ n = omega arith in
      ap (times m r) (power-square (ring m hm) x (n / 2) ∙ ap (power (times m) x) q)

-- ---- the value of a map

-- what column k adds to the value at x
abbrev pub part : List ℕ → ℕ → ℕ → ℕ
part columns x k = x / 2 ^ k % 2 * get_or columns k 0

-- the bits of x from i + 1 on
pub shift-next : (x y i : ℕ) → y ≡ x / 2 ^ i → y / 2 ≡ x / 2 ^ (i + 1)
shift-next x y i p = ap (λ (z : ℕ). z / 2) p ∙ shr-shr x i 1

-- the sum of one term more
pub sum-next : (i : ℕ) (f : ℕ → ℕ) → sum (i + 1) f ≡ f i ⊕ sum i f
unfolding sum
sum-next i f = ap (λ (n : ℕ). sum n f) (add-one i)

module _ (c : ℕ) (columns : List ℕ) (s x y i : ℕ) (here : y ≡ x / 2 ^ i) (so_far : s ≡ c ⊕ sum i (part columns x)) where
  -- one turn of the map's loop where the bit is set
  pub column-set : y % 2 ≡ 1 → get_or columns i 0 ⊕ s ≡ c ⊕ sum (i + 1) (part columns x)
  column-set p =
      ap (λ z. get_or columns i 0 ⊕ z) so_far ∙ ⊕-left-comm (get_or columns i 0) c (sum i (part columns x))
      ∙ ap (λ (b : ℕ). c ⊕ (b ⊕ sum i (part columns x)))
      (sym (ap (λ (b : ℕ). b % 2 * get_or columns i 0) (sym here) ∙ ap (λ (b : ℕ). b * get_or columns i 0) p
      ∙ one-mul (get_or columns i 0)))
      ∙ ap (λ z. c ⊕ z) (sym (sum-next i (part columns x)))

  -- and where it is not
  pub column_clear : (y % 2 ≡ 1 → ⊥) → s ≡ c ⊕ sum (i + 1) (part columns x)
  column_clear p =
      let q : y % 2 ≡ 0 = omega arith in
      so_far ∙ ap (λ z. c ⊕ z)
      (sym (sum-next i (part columns x)
      ∙ ap (λ (b : ℕ). b ⊕ sum i (part columns x)) (ap (λ (b : ℕ). b % 2 * get_or columns i 0) (sym here)
      ∙ ap (λ (b : ℕ). b * get_or columns i 0) q ∙ zero-mul (get_or columns i 0))
      ∙ zero-⊕ (sum i (part columns x))))

-- ---- repeated squares

-- one turn of the squaring loop
pub squared-next : (mul : ℕ → ℕ → ℕ) (n x : ℕ) → 0 < n → squared mul (n - 1) (mul x x) ≡ squared mul n x
squared-next mul zero x h = absurd (not-suc-le-zero h)
squared-next mul (suc n) x h =
    let p : suc n - 1 ≡ n = omega arith in
    ap (λ (k : ℕ). squared mul k (mul x x)) p

-- ---- the coefficients

-- one column's term of coefficient j
abbrev pub term : ℕ → List ℕ → ℕ → ℕ → ℕ
term m columns j i = times m (get_or columns i 0) (squared (times m) j (get_or (dual_of m) i 0))
