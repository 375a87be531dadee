-- What follows from the laws: powers, squares, inverses.
-- Assumes nothing.
use mathlib.Core.Path.{◌≡◌, refl, sym, ap, ◌∙◌}
use Prim.Native.Nat.{ℕ, zero, suc, ◌+◌, ◌*◌, ◌^◌, ◌<◌}
use native.Mathlib.Nat.{zero-add, suc-add, mul-suc, mul-zero as nat-mul-zero, pow-suc}
use native.Mathlib.Omega.{arith}
use native.Mathlib.Decide.{ℕ_discrete}
use lib.Dec.{lit<}
use Rattle.field.specs.Xor.{◌⊕◌}
use Rattle.field.specs.Field.{power, squared}
use Rattle.field.specs.Laws.{Ring, Periodic, over}
use Rattle.field.proofs.Laws.Algebra.{mul-zero, zero-mul, mul-one, mul_swap, square-add, pow_add}

-- one power more
pub power-suc : (mul : ℕ → ℕ → ℕ) (a e : ℕ) → power mul a (suc e) ≡ mul a (power mul a e)
power-suc mul a e = refl

-- ---- in the ring

module _ {mul : ℕ → ℕ → ℕ} (R : Ring (over mul)) where
  -- ---- powers

  -- the first power
  pub power-one : (a : ℕ) → a < 256 → power mul a 1 ≡ a
  power-one a h = mul-one R a h

  -- (a·b)^e = a^e·b^e
  pub power-mul : (a b e : ℕ) → power mul (mul a b) e ≡ mul (power mul a e) (power mul b e)
  power-mul a b zero = sym (R.one-mul 1 (lit< tt))
  power-mul a b (suc e) = ap (mul (mul a b)) (power-mul a b e) ∙ mul_swap R a b (power mul a e) (power mul b e)

  -- a power of 0 above the zeroth is 0
  pub power_zero : (e : ℕ) → power mul 0 (suc e) ≡ 0
  power_zero e = zero-mul R (power mul 0 e)

  -- a power of 1 is 1
  pub one_power : (e : ℕ) → power mul 1 e ≡ 1
  one_power zero = refl
  one_power (suc e) = ap (mul 1) (one_power e) ∙ R.one-mul 1 (lit< tt)

  -- (a·a)^e = a^(e+e)
  pub power-square : (a e : ℕ) → power mul (mul a a) e ≡ power mul a (e + e)
  power-square a e = power-mul a a e ∙ sym (pow_add R a e e)

  -- (a^i)^j = a^(i·j)
  pub power-power : (a i j : ℕ) → power mul (power mul a i) j ≡ power mul a (i * j)
  power-power a i zero = ap (power mul a) (sym (nat-mul-zero i))
  power-power a i (suc j) =
      let e : i + i * j ≡ i * suc j = omega (arith, mul-suc i j) in
      ap (mul (power mul a i)) (power-power a i j) ∙ sym (pow_add R a i (i * j)) ∙ ap (power mul a) e

  -- ---- squares, and the powers of 2 that come of them

  -- a^(2^(j+1)) = (a·a)^(2^j)
  pub power-next : (a j : ℕ) → power mul a (2 ^ suc j) ≡ power mul (mul a a) (2 ^ j)
  power-next a j =
      let e : 2 ^ suc j ≡ 2 ^ j + 2 ^ j = omega (arith, pow-suc 2 j) in
      ap (power mul a) e ∙ sym (power-square a (2 ^ j))

  -- a^(2^j) is a squared j times
  pub power-squared : (j a : ℕ) → a < 256 → power mul a (2 ^ j) ≡ squared mul j a
  power-squared zero a h = power-one a h
  power-squared (suc j) a h = power-next a j ∙ power-squared j (mul a a) (R.mul-byte a a)

  -- so do repeated squares
  pub squared-spread : (j a b : ℕ) → squared mul j (a ⊕ b) ≡ squared mul j a ⊕ squared mul j b
  squared-spread zero a b = refl
  squared-spread (suc j) a b = ap (squared mul j) (square-add R a b) ∙ squared-spread j (mul a a) (mul b b)

  -- and products to products
  pub squared-mul : (j a b : ℕ) → squared mul j (mul a b) ≡ mul (squared mul j a) (squared mul j b)
  squared-mul zero a b = refl
  squared-mul (suc j) a b = ap (squared mul j) (mul_swap R a b a b) ∙ squared-mul j (mul a a) (mul b b)

  -- squared j + i times is squared j times, then i times
  pub squared-add : (i j a : ℕ) → squared mul (j + i) a ≡ squared mul i (squared mul j a)
  squared-add i zero a = ap (λ (n : ℕ). squared mul n a) (zero-add i)
  squared-add i (suc j) a = ap (λ (n : ℕ). squared mul n a) (suc-add j i) ∙ squared-add i j (mul a a)

  -- 0 squared is 0
  pub squared-zero : (j : ℕ) → squared mul j 0 ≡ 0
  squared-zero zero = refl
  squared-zero (suc j) = ap (squared mul j) (mul-zero R 0) ∙ squared-zero j

  -- 1 squared is 1
  pub squared-one : (j : ℕ) → squared mul j 1 ≡ 1
  squared-one zero = refl
  squared-one (suc j) = ap (squared mul j) (R.one-mul 1 (lit< tt)) ∙ squared-one j

-- ---- in the field

module _ {mul : ℕ → ℕ → ℕ} (L : Periodic mul) where
  -- a^256 = a
  pub fermat : (a : ℕ) → a < 256 → power mul a 256 ≡ a
  fermat a h = go (ℕ_discrete a 0)
    where
      go : Dec (a ≡ 0) → power mul a 256 ≡ a
      go (yes e) = ap (λ x. power mul x 256) e ∙ power_zero L.ring 255 ∙ sym e
      go (no e) = power-suc mul a 255 ∙ ap (mul a) (L.period a h e) ∙ mul-one L.ring a h

  -- a power above 255 is the power less 255
  pub power-drop : (a e : ℕ) → a < 256 → power mul a (suc e + 255) ≡ power mul a (suc e)
  power-drop a e h =
      let s : suc e + 255 ≡ e + 256 = omega arith in
      ap (power mul a) s ∙ pow_add L.ring a e 256 ∙ ap (mul (power mul a e)) (fermat a h)
      ∙ L.ring.mul_comm (power mul a e) a ∙ sym (power-suc mul a e)

  -- the 254th power is the inverse
  pub inverse : (a : ℕ) → a < 256 → (a ≡ 0 → ⊥) → mul a (power mul a 254) ≡ 1
  inverse a h n = sym (power-suc mul a 254) ∙ L.period a h n

  -- a factor other than 0 may be left out
  pub mul_cancel : (a b c : ℕ) → a < 256 → b < 256 → c < 256 → (a ≡ 0 → ⊥) → mul a b ≡ mul a c → b ≡ c
  mul_cancel a b c ha hb hc n e = sym (undo b hb) ∙ ap (mul (power mul a 254)) e ∙ undo c hc
    where
      undo : (x : ℕ) → x < 256 → mul (power mul a 254) (mul a x) ≡ x
      undo x hx =
          sym (L.ring.mul_assoc (power mul a 254) a x)
          ∙ ap (λ y. mul y x) (L.ring.mul_comm (power mul a 254) a ∙ inverse a ha n) ∙ L.ring.one-mul x hx

  -- no zero divisors
  pub factor-zero : (a b : ℕ) → a < 256 → b < 256 → (a ≡ 0 → ⊥) → mul a b ≡ 0 → b ≡ 0
  factor-zero a b ha hb n e = mul_cancel a b 0 ha hb (lit< tt) n (e ∙ sym (mul-zero L.ring a))
