-- A linear map is the series of its coefficients, and of no other list: over any ring with dual bytes.
-- Assumes nothing.
use mathlib.Core.Path.{◌≡◌, sym, ap, ap₂, ◌∙◌, subst}
use mathlib.Core.List.{List}
use Prim.Native.Nat.{ℕ, ◌*◌, ◌/◌, ◌%◌, ◌^◌, ◌<◌}
use native.Mathlib.Nat.{mod-lt, zero-mul, one-mul, zero-lt-suc}
use lib.Dec.{eqb}
use lib.Pow.{pow-lt}
use lib.ListN.{get_or}
use lib.Seq.{ext_get_or}
use Rattle.field.specs.Xor.{◌⊕◌}
use Rattle.field.specs.Field.{power, squared}
use Rattle.field.specs.Laws.{Ring, over}
use Rattle.field.specs.Maps.{sum, linear, series, coefficient, coefficients, columns_of, Bytes8}
use Rattle.field.proofs.Laws.Xor.{bit_cases, ⊕_lt}
use Rattle.field.proofs.Laws.Computed.{each, each_at, same_at}
use Rattle.field.proofs.Laws.Algebra.{mul-zero, mul-one}
use Rattle.field.proofs.Laws.Powers.{squared-mul, squared-spread, power-squared}
use Rattle.field.proofs.Laws.Sums.{sum_cong, sum-spread, sum_swap, sum_lt, delta, mul-sum, sum-mul, sum-pick}
use Rattle.field.proofs.Laws.Sums.{length-list_of, get_d_list_of}

-- what the dual bytes are for: they pick each bit of a byte, and they gather coefficients from columns
pub record Dual (mul : ℕ → ℕ → ℕ) (dual : List ℕ) : Type 0 where
  pub picks : (i x : ℕ) → i < 8 → x < 256 → sum 8 (λ j. squared mul j (mul (get_or dual i 0) x)) ≡ x / 2 ^ i % 2
  pub gathers : (i j : ℕ) → i < 8 → j < 8
      → sum 8 (λ k. mul (squared mul i (2 ^ k)) (squared mul j (get_or dual k 0))) ≡ delta i j

-- two lists of eight bytes with the same entries are the same
pub same8 : {l r : List ℕ} → Bytes8 l → Bytes8 r → ((i : ℕ) → i < 8 → get_or l i 0 ≡ get_or r i 0) → l ≡ r
same8 {l} {r} L R h = ext_get_or 0 l r (L.eight ∙ sym R.eight) (λ i hi. h i (subst (λ (n : ℕ). i < n) L.eight hi))

-- the bits of the powers of 2, by a test of 64 entries
pub bits : (i k : ℕ) → i < 8 → k < 8 → 2 ^ k / 2 ^ i % 2 ≡ delta i k
bits i k hi hk =
    same_at 8 (λ k. 2 ^ k / 2 ^ i % 2) (delta i)
    (each_at 8 (λ i. each 8 (λ k. eqb (2 ^ k / 2 ^ i % 2) (delta i k))) tt i hi) k hk

column : (mul : ℕ → ℕ → ℕ) (l : List ℕ) (k : ℕ) → k < 8 → get_or (columns_of mul l) k 0 ≡ series mul l (2 ^ k)
unfolding columns_of
column mul l k h = get_d_list_of 8 (λ i. series mul l (2 ^ i)) 0 k h

bit-mul : {mul : ℕ → ℕ → ℕ} → Ring (over mul) → (c x : ℕ) → c < 256 → x < 2 → mul c x ≡ x * c
bit-mul {mul} R c x h =
    bit_cases (λ x. mul c x ≡ x * c) (mul-zero R c ∙ sym (zero-mul c)) (mul-one R c h ∙ sym (one-mul c)) x

module _ {mul : ℕ → ℕ → ℕ} (R : Ring (over mul)) where
  -- the series by repeated squares
  pub series-squared : (l : List ℕ) (x : ℕ) → x < 256 → series mul l x ≡ sum 8 (λ j. mul (get_or l j 0) (squared mul j x))
  unfolding series
  series-squared l x h = sum_cong 8 (λ j hj. ap (mul (get_or l j 0)) (power-squared R j x h))

  -- the series is a byte
  pub series_lt : (l : List ℕ) (x : ℕ) → series mul l x < 256
  unfolding series
  series_lt l x = sum_lt 8 (λ j. mul (get_or l j 0) (power mul x (2 ^ j)))
      (λ j h. R.mul-byte (get_or l j 0) (power mul x (2 ^ j)))

  -- the series takes sums to sums
  pub series-spread : (l : List ℕ) (x y : ℕ) → x < 256 → y < 256
      → series mul l (x ⊕ y) ≡ series mul l x ⊕ series mul l y
  series-spread l x y hx hy =
      series-squared l (x ⊕ y) (⊕_lt 8 hx hy)
      ∙ sum_cong 8 (λ j h. ap (mul (get_or l j 0)) (squared-spread R j x y)
      ∙ R.distrib (get_or l j 0) (squared mul j x) (squared mul j y))
      ∙ sum-spread 8 (λ j. mul (get_or l j 0) (squared mul j x)) (λ j. mul (get_or l j 0) (squared mul j y))
      ∙ sym (ap₂ ◌⊕◌ (series-squared l x hx) (series-squared l y hy))

  -- the columns of a list of coefficients are eight bytes
  pub columns_of-bytes : (l : List ℕ) → Bytes8 (columns_of mul l)
  unfolding columns_of
  columns_of-bytes l = record {
    eight = length-list_of 8 (λ i. series mul l (2 ^ i));
    byte = λ k h. subst (λ (x : ℕ). x < 256) (sym (column mul l k h)) (series_lt l (2 ^ k));
  }

  -- a column is the value at its power of 2
  pub linear-at : (columns : List ℕ) → Bytes8 columns → (k : ℕ) → k < 8 → linear columns (2 ^ k) ≡ get_or columns k 0
  unfolding linear
  linear-at columns B k h =
      sum_cong 8 (λ i hi. sym (bit-mul R (get_or columns i 0) (2 ^ k / 2 ^ i % 2) (B.byte i hi)
      (mod-lt (2 ^ k / 2 ^ i) (zero-lt-suc 1)))
      ∙ ap (mul (get_or columns i 0)) (bits i k hi h))
      ∙ sum-pick R 8 k (λ i. get_or columns i 0) h (B.byte k h)

  module _ {dual : List ℕ} (D : Dual mul dual) where
    at : (columns : List ℕ) (j : ℕ) → j < 8
        → get_or (coefficients mul dual columns) j 0 ≡ sum 8 (λ i. mul (get_or columns i 0) (squared mul j (get_or dual i 0)))
    unfolding coefficients coefficient
    at columns j h = get_d_list_of 8 (coefficient mul dual columns) 0 j h

    -- the coefficients are eight bytes
    pub coefficients-bytes : (columns : List ℕ) → Bytes8 (coefficients mul dual columns)
    unfolding coefficients
    coefficients-bytes columns = record {
      eight = length-list_of 8 (coefficient mul dual columns);
      byte = λ j h. subst (λ (x : ℕ). x < 256) (sym (at columns j h))
          (sum_lt 8 (λ i. mul (get_or columns i 0) (squared mul j (get_or dual i 0)))
          (λ i l. R.mul-byte (get_or columns i 0) (squared mul j (get_or dual i 0))));
    }

    -- one column's part of the series
    part : (i c x : ℕ) → i < 8 → c < 256 → x < 256
        → sum 8 (λ j. mul (mul c (squared mul j (get_or dual i 0))) (squared mul j x)) ≡ x / 2 ^ i % 2 * c
    part i c x hi hc hx =
        sum_cong 8 (λ j l. R.mul_assoc c (squared mul j (get_or dual i 0)) (squared mul j x)
        ∙ ap (mul c) (sym (squared-mul R j (get_or dual i 0) x)))
        ∙ sym (mul-sum R 8 c (λ j. squared mul j (mul (get_or dual i 0) x)))
        ∙ ap (mul c) (D.picks i x hi hx)
        ∙ bit-mul R c (x / 2 ^ i % 2) hc (mod-lt (x / 2 ^ i) (zero-lt-suc 1))

    -- the coefficients represent the map
    pub represents : (columns : List ℕ) → Bytes8 columns → (x : ℕ) → x < 256
        → series mul (coefficients mul dual columns) x ≡ linear columns x
    unfolding series linear
    represents columns B x hx =
        sum_cong 8 (λ j l. ap₂ mul (at columns j l) (power-squared R j x hx)
        ∙ sum-mul R 8 (squared mul j x) (λ i. mul (get_or columns i 0) (squared mul j (get_or dual i 0))))
        ∙ sum_swap 8 8 (λ j i. mul (mul (get_or columns i 0) (squared mul j (get_or dual i 0))) (squared mul j x))
        ∙ sum_cong 8 (λ i l. part i (get_or columns i 0) x l (B.byte i l) hx)

    -- one coefficient, from the columns that the coefficients have
    gathered : (l : List ℕ) → Bytes8 l → (j : ℕ) → j < 8
        → sum 8 (λ k. mul (sum 8 (λ i. mul (get_or l i 0) (squared mul i (2 ^ k)))) (squared mul j (get_or dual k 0))) ≡
        get_or l j 0
    gathered l B j hj =
        sum_cong 8 (λ k h. sum-mul R 8 (squared mul j (get_or dual k 0)) (λ i. mul (get_or l i 0) (squared mul i (2 ^ k)))
        ∙ sum_cong 8 (λ i h. R.mul_assoc (get_or l i 0) (squared mul i (2 ^ k)) (squared mul j (get_or dual k 0))))
        ∙ sum_swap 8 8 (λ k i. mul (get_or l i 0) (mul (squared mul i (2 ^ k)) (squared mul j (get_or dual k 0))))
        ∙ sum_cong 8 (λ i hi. sym (mul-sum R 8 (get_or l i 0)
        (λ k. mul (squared mul i (2 ^ k)) (squared mul j (get_or dual k 0))))
        ∙ ap (mul (get_or l i 0)) (D.gathers i j hi hj))
        ∙ sum-pick R 8 j (λ i. get_or l i 0) hj (B.byte j hj)

    -- ---- lists of eight coefficients and lists of eight columns pair off

    -- the coefficients of columns have these columns
    pub columns_of-coefficients : (columns : List ℕ) → Bytes8 columns
        → columns_of mul (coefficients mul dual columns) ≡ columns
    columns_of-coefficients columns B =
        same8 (columns_of-bytes (coefficients mul dual columns)) B (λ k h.
        column mul (coefficients mul dual columns) k h ∙ represents columns B (2 ^ k) (pow-lt h)
        ∙ linear-at columns B k h)

    -- the columns of coefficients have these coefficients
    pub coefficients_of-columns : (l : List ℕ) → Bytes8 l → coefficients mul dual (columns_of mul l) ≡ l
    coefficients_of-columns l B =
        same8 (coefficients-bytes (columns_of mul l)) B (λ j h.
        at (columns_of mul l) j h
        ∙ sum_cong 8 (λ k hk. ap (λ x. mul x (squared mul j (get_or dual k 0))) (column mul l k hk
        ∙ series-squared l (2 ^ k) (pow-lt hk)))
        ∙ gathered l B j h)

    -- no other list represents the map
    pub only : (columns l : List ℕ) → Bytes8 columns → Bytes8 l
        → ((x : ℕ) → x < 256 → series mul l x ≡ linear columns x)
        → l ≡ coefficients mul dual columns
    only columns l C B h =
        sym (coefficients_of-columns l B)
        ∙ ap (coefficients mul dual) (same8 (columns_of-bytes l) C (λ k hk.
        column mul l k hk ∙ h (2 ^ k) (pow-lt hk) ∙ linear-at columns C k hk))
