-- Affine maps on bytes: a constant and eight columns; and their coefficients.
-- Assumes nothing.
use Rattle.std.specs.Prelude.{◌≡◌, ℕ, zero, suc, ◌*◌, ◌/◌, ◌%◌, ◌^◌, ◌<◌, Bool, true, false, List, [], ◌∷◌, eqb, length, get_or}
use Rattle.field.specs.Xor.{◌⊕◌}
use Rattle.field.specs.Field.{times, power, squared}

-- f 0 ⊕ f 1 ⊕ .. ⊕ f (n - 1)
unfoldable pub sum : ℕ → (ℕ → ℕ) → ℕ
sum zero f = 0
sum (suc n) f = f n ⊕ sum n f

-- f 0, f 1, .. f (n - 1)
unfoldable pub list_of : {A : Type 0} → ℕ → (ℕ → A) → List A
list_of zero f = []
list_of (suc n) f = f 0 ∷ list_of n (λ i. f (suc i))

-- eight bytes
pub record Bytes8 (l : List ℕ) : Type 0 where
  pub eight : length l ≡ 8
  pub byte : (i : ℕ) → i < 8 → get_or l i 0 < 256

-- the columns at the set bits of x
unfoldable pub linear : List ℕ → ℕ → ℕ
linear columns x = sum 8 (λ i. x / 2 ^ i % 2 * get_or columns i 0)

-- the value at x of the map with the constant c
unfoldable pub affine : ℕ → List ℕ → ℕ → ℕ
affine c columns x = c ⊕ linear columns x

-- the sum of l_j·x^(2^j)
unfoldable pub series : (ℕ → ℕ → ℕ) → List ℕ → ℕ → ℕ
series mul l x = sum 8 (λ j. mul (get_or l j 0) (power mul x (2 ^ j)))

-- coefficient j, from bytes `dual` whose product with a byte has each bit of the byte for its trace
unfoldable pub coefficient : (ℕ → ℕ → ℕ) → List ℕ → List ℕ → ℕ → ℕ
coefficient mul dual columns j = sum 8 (λ i. mul (get_or columns i 0) (squared mul j (get_or dual i 0)))

-- the eight coefficients of the map with these columns, by its dual bytes
unfoldable pub coefficients : (ℕ → ℕ → ℕ) → List ℕ → List ℕ → List ℕ
coefficients mul dual columns = list_of 8 (coefficient mul dual columns)

-- the columns that a list of coefficients has
unfoldable pub columns_of : (ℕ → ℕ → ℕ) → List ℕ → List ℕ
columns_of mul l = list_of 8 (λ i. series mul l (2 ^ i))

pick_list : Bool → List ℕ → List ℕ → List ℕ
pick_list true a b = a
pick_list false a b = b

-- the dual bytes of 1, 2, 4, .. 128 for the modulus 29, and for 27
unfoldable pub dual_of : ℕ → List ℕ
unfolding pick_list
dual_of m =
    pick_list (eqb m 29) (173 ∷ 216 ∷ 193 ∷ 67 ∷ 2 ∷ 1 ∷ 142 ∷ 71 ∷ [])
    (41 ∷ 176 ∷ 88 ∷ 5 ∷ 166 ∷ 83 ∷ 164 ∷ 82 ∷ [])

-- the coefficients of the map with these columns, over the modulus m
unfoldable pub coefficients_of : ℕ → List ℕ → List ℕ
coefficients_of m columns = coefficients (times m) (dual_of m) columns
