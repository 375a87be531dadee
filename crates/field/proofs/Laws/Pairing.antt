-- The coefficients of a map over either modulus: they represent it, no other list does,
-- and lists of eight coefficients and linear maps pair off exactly.
-- Assumes nothing.
use mathlib.Core.Path.{◌≡◌, sym, ap, ◌∙◌, subst}
use mathlib.Core.List.{List}
use Prim.Native.Nat.{ℕ, ◌*◌, ◌/◌, ◌%◌, ◌^◌, ◌<◌}
use native.Mathlib.Nat.{mod-lt, mod-eq_of_lt}
use lib.ListN.{get_or}
use lib.Pow.{pow-lt, pow_pos}
use Rattle.field.specs.Xor.{◌⊕◌}
use Rattle.field.specs.Field.{Modulus, times}
use Rattle.field.specs.Maps.{list_of, linear, affine, series, columns_of, coefficients_of, Bytes8}
use Rattle.field.proofs.Laws.Xor.{⊕_cancel, ⊕-zero, ⊕-assoc, ⊕-comm, ⊕-left-comm, ⊕_mod, ⊕_shr}
use Rattle.field.proofs.Laws.Linear.{agree-byte, at_zero}
use Rattle.field.proofs.Laws.Product.{bit-spread}
use Rattle.field.proofs.Laws.Sums.{sum_cong, sum-spread, get_d_list_of, length-list_of}
use Rattle.field.proofs.Laws.Maps.{represents, only, coefficients-bytes, columns_of-coefficients}
use Rattle.field.proofs.Laws.Maps.{coefficients_of-columns, series_lt, series-spread, linear-at}
use Rattle.field.proofs.Laws.Modulus.{periodic}
use Rattle.field.proofs.Laws.Duals.{duals}

-- ---- the value of a map

-- the columns of a sum's bits are those of its parts, added
pub linear-spread : (columns : List ℕ) (x y : ℕ) → linear columns (x ⊕ y) ≡ linear columns x ⊕ linear columns y
unfolding linear
linear-spread columns x y =
    sum_cong 8 (λ i h. ap (λ (z : ℕ). z % 2 * get_or columns i 0) (⊕_shr i x y)
    ∙ bit-spread (get_or columns i 0) (x / 2 ^ i) (y / 2 ^ i))
    ∙ sum-spread 8 (λ i. x / 2 ^ i % 2 * get_or columns i 0) (λ i. y / 2 ^ i % 2 * get_or columns i 0)

-- f(x ⊕ y) = f(x) ⊕ f(y) ⊕ c
pub affine-spread : (c : ℕ) (columns : List ℕ) (x y : ℕ)
    → affine c columns (x ⊕ y) ≡ affine c columns x ⊕ affine c columns y ⊕ c
unfolding affine
affine-spread c columns x y =
    ap (λ z. c ⊕ z) (linear-spread columns x y) ∙ simp (⊕-assoc, ⊕-left-comm, ⊕-comm, ⊕_cancel)

-- f(0) = c
pub affine-zero : (c : ℕ) (columns : List ℕ) → affine c columns 0 ≡ c
unfolding affine
affine-zero c columns = ap (λ z. c ⊕ z) (at_zero (linear columns) (linear-spread columns)) ∙ ⊕-zero c

-- ---- the coefficients

module _ {m : ℕ} (M : Modulus m) where
  -- the coefficients are eight bytes
  pub coefficients_of-bytes : (columns : List ℕ) → Bytes8 (coefficients_of m columns)
  unfolding coefficients_of
  coefficients_of-bytes = coefficients-bytes (periodic M).ring (duals M)

  -- the coefficients represent the map at every byte: f(x) = c + the sum of l_j·x^(2^j)
  pub coefficients_represent : (c : ℕ) (columns : List ℕ) → Bytes8 columns → (x : ℕ) → x < 256
      → affine c columns x ≡ c ⊕ series (times m) (coefficients_of m columns) x
  unfolding affine coefficients_of
  coefficients_represent c columns B x h = ap (λ z. c ⊕ z) (sym (represents (periodic M).ring (duals M) columns B x h))

  -- and no other list of eight bytes does
  pub coefficients-only : (c : ℕ) (columns l : List ℕ) → Bytes8 columns → Bytes8 l
      → ((x : ℕ) → x < 256 → affine c columns x ≡ c ⊕ series (times m) l x) → l ≡ coefficients_of m columns
  unfolding affine coefficients_of
  coefficients-only c columns l C B h =
      only (periodic M).ring (duals M) columns l C B (λ x hx. sym (⊕_cancel c (series (times m) l x))
      ∙ ap (λ z. c ⊕ z) (sym (h x hx)) ∙ ⊕_cancel c (linear columns x))

  -- ---- pairing: coefficients and columns

  -- columns to coefficients and back
  pub columns-back : (columns : List ℕ) → Bytes8 columns → columns_of (times m) (coefficients_of m columns) ≡ columns
  unfolding coefficients_of
  columns-back = columns_of-coefficients (periodic M).ring (duals M)

  -- coefficients to columns and back
  pub coefficients-back : (l : List ℕ) → Bytes8 l → coefficients_of m (columns_of (times m) l) ≡ l
  unfolding coefficients_of
  coefficients-back = coefficients_of-columns (periodic M).ring (duals M)

-- ---- pairing: coefficients and linear maps as functions on bytes

-- a function on bytes that takes sums to sums
pub record LinearMap (f : ℕ → ℕ) : Type 0 where
  pub byte : (x : ℕ) → x < 256 → f x < 256
  pub spread : (x y : ℕ) → x < 256 → y < 256 → f (x ⊕ y) ≡ f x ⊕ f y

-- a linear map is the one with its values at 1, 2, 4, .. 128 for columns
pub columns_at : (ℕ → ℕ) → List ℕ
columns_at f = list_of 8 (λ i. f (2 ^ i))

-- its columns are eight bytes
pub columns_at-bytes : {f : ℕ → ℕ} → LinearMap f → Bytes8 (columns_at f)
unfolding columns_at
columns_at-bytes {f} F = record {
  eight = length-list_of 8 (λ i. f (2 ^ i));
  byte = λ i h. subst (λ (x : ℕ). x < 256) (sym (get_d_list_of 8 (λ i. f (2 ^ i)) 0 i h)) (F.byte (2 ^ i) (pow-lt h));
}

low : (x : ℕ) → x % 256 < 256
low x = mod-lt x (pow_pos 8)

module _ {m : ℕ} (M : Modulus m) where
  -- it is the map with its own columns
  pub linear-columns : (f : ℕ → ℕ) → LinearMap f → (x : ℕ) → x < 256 → linear (columns_at f) x ≡ f x
  unfolding columns_at
  linear-columns f F x h =
      agree-byte (linear (columns_at f)) (λ x. f (x % 256)) (linear-spread (columns_at f))
      (λ a b. ap f (⊕_mod 8 a b) ∙ F.spread (a % 256) (b % 256) (low a) (low b))
      (λ i hi. linear-at (periodic M).ring (columns_at f) (columns_at-bytes F) i hi
      ∙ get_d_list_of 8 (λ i. f (2 ^ i)) 0 i hi ∙ ap f (sym (mod-eq_of_lt (pow-lt hi))))
      x h
      ∙ ap f (mod-eq_of_lt h)

  -- every list of eight bytes is the coefficients of a linear map
  pub series-linear : (l : List ℕ) → LinearMap (series (times m) l)
  series-linear l = record {
    byte = λ x h. series_lt (periodic M).ring l x;
    spread = series-spread
        (periodic M).ring l;
  }

  -- and every linear map has one
  pub map-coefficients : (f : ℕ → ℕ) → LinearMap f → (x : ℕ) → x < 256
      → series (times m) (coefficients_of m (columns_at f)) x ≡ f x
  unfolding coefficients_of
  map-coefficients f F x h = represents (periodic M).ring (duals M) (columns_at f) (columns_at-bytes F) x h
      ∙ linear-columns f F x h

  -- and no other
  pub map-only : (f : ℕ → ℕ) → LinearMap f → (l : List ℕ) → Bytes8 l → ((x : ℕ) → x < 256 → series (times m) l x ≡ f x)
      → l ≡ coefficients_of m (columns_at f)
  unfolding coefficients_of
  map-only f F l B h =
      only (periodic M).ring (duals M) (columns_at f) l (columns_at-bytes F) B (λ x hx. h x hx
      ∙ sym (linear-columns f F x hx))
