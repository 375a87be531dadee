-- What follows from the field's laws: sums regrouped, zero, one, and powers, of which one above 255 is the power less
-- 255. Assumes nothing.
use mathlib.Core.Path.{◌≡◌, refl, sym, ap, ap₂, ◌∙◌}
use Prim.Native.Nat.{ℕ, zero, suc, ◌+◌, ◌<◌}
use native.Mathlib.Omega.{arith}
use native.Mathlib.Nat.{suc-add, zero-add as nat-zero-add}
use Rattle.field.specs.Field.{power, squared}
use Rattle.field.specs.Laws.{Ops, Ring, Laws}

-- m doubled n times over
abbrev doubled : ℕ → ℕ → ℕ
doubled zero m = m
doubled (suc n) m = doubled n (m + m)

module _ {F : Ops} (R : Ring F) where
  open F use {add, mul}
  open R use {add_comm, add_assoc, add-zero, add_self, mul-byte, mul_comm, mul_assoc, distrib, one-mul}

  -- zero on the left
  pub zero-add : (a : ℕ) → add 0 a ≡ a
  zero-add a = add_comm 0 a ∙ add-zero a

  -- the first two of three summands change places
  pub add_left_comm : (a b c : ℕ) → add a (add b c) ≡ add b (add a c)
  add_left_comm a b c = sym (add_assoc a b c) ∙ ap (λ (x : ℕ). add x c) (add_comm a b) ∙ add_assoc b a c

  -- two sums, added place by place
  pub add_swap : (a b c d : ℕ) → add (add a b) (add c d) ≡ add (add a c) (add b d)
  add_swap a b c d =
      add_assoc a b (add c d) ∙ ap (λ (x : ℕ). add a x) (add_left_comm b c d) ∙ sym (add_assoc a c (add b d))

  -- what is added twice is gone
  pub add_twice : (a b : ℕ) → add a (add a b) ≡ b
  add_twice a b = sym (add_assoc a a b) ∙ ap (λ (x : ℕ). add x b) (add_self a) ∙ zero-add b

  -- a summand may be left out on both sides
  pub add_cancel : (a b c : ℕ) → add a b ≡ add a c → b ≡ c
  add_cancel a b c h = sym (add_twice a b) ∙ ap (λ (x : ℕ). add a x) h ∙ add_twice a c

  -- a sum is zero only where its parts are equal
  pub add_same : (a b : ℕ) → add a b ≡ 0 → a ≡ b
  add_same a b h = sym (add-zero a) ∙ ap (λ (x : ℕ). add a x) (sym h) ∙ add_twice a b

  -- a product with zero
  pub mul-zero : (a : ℕ) → mul a 0 ≡ 0
  mul-zero a = ap (λ (x : ℕ). mul a x) (sym (add_self 0)) ∙ distrib a 0 0 ∙ add_self (mul a 0)

  -- zero times anything
  pub zero-mul : (a : ℕ) → mul 0 a ≡ 0
  zero-mul a = mul_comm 0 a ∙ mul-zero a

  -- one on the right
  pub mul-one : (a : ℕ) → a < 256 → mul a 1 ≡ a
  mul-one a h = mul_comm a 1 ∙ one-mul a h

  -- a product with a sum on the left
  pub distrib-right : (a b c : ℕ) → mul (add a b) c ≡ add (mul a c) (mul b c)
  distrib-right a b c = mul_comm (add a b) c ∙ distrib c a b ∙ ap₂ add (mul_comm c a) (mul_comm c b)

  -- the first two of three factors change places
  pub mul_left_comm : (a b c : ℕ) → mul a (mul b c) ≡ mul b (mul a c)
  mul_left_comm a b c = sym (mul_assoc a b c) ∙ ap (λ (x : ℕ). mul x c) (mul_comm a b) ∙ mul_assoc b a c

  -- two products, multiplied place by place
  pub mul_swap : (a b c d : ℕ) → mul (mul a b) (mul c d) ≡ mul (mul a c) (mul b d)
  mul_swap a b c d =
      mul_assoc a b (mul c d) ∙ ap (λ (x : ℕ). mul a x) (mul_left_comm b c d) ∙ sym (mul_assoc a c (mul b d))

  -- squaring is additive
  pub square-add : (a b : ℕ) → mul (add a b) (add a b) ≡ add (mul a a) (mul b b)
  square-add a b =
      distrib-right a b (add a b)
      ∙ ap₂ add (distrib a a b) (distrib b a b)
      ∙ ap (λ (x : ℕ). add (add (mul a a) (mul a b)) (add x (mul b b))) (mul_comm b a)
      ∙ add_assoc (mul a a) (mul a b) (add (mul a b) (mul b b))
      ∙ ap (λ (x : ℕ). add (mul a a) x) (add_twice (mul a b) (mul b b))

  -- ---- powers

  -- a power is a byte
  pub pow_byte : (a n : ℕ) → power mul a n < 256
  pow_byte a zero = omega arith
  pow_byte a (suc n) = mul-byte a (power mul a n)

  -- powers of one byte multiply by adding
  pub pow_add : (a m n : ℕ) → power mul a (m + n) ≡ mul (power mul a m) (power mul a n)
  pow_add a zero n = ap (power mul a) (nat-zero-add n) ∙ sym (one-mul (power mul a n) (pow_byte a n))
  pow_add a (suc m) n =
      ap (power mul a) (suc-add m n) ∙ ap (mul a) (pow_add a m n) ∙ sym (mul_assoc a (power mul a m) (power mul a n))

  -- a power that is squared n times over is doubled n times over
  squared_pow : (n m a : ℕ) → squared mul n (power mul a m) ≡ power mul a (doubled n m)
  squared_pow zero m a = refl
  squared_pow (suc n) m a = ap (squared mul n) (sym (pow_add a m m)) ∙ squared_pow n (m + m) a

module _ {F : Ops} (L : Laws F) where
  open F use {mul}

  -- Fermat: a to the 256th is a
  pub pow_256 : (a : ℕ) → a < 256 → power mul a 256 ≡ a
  pow_256 a h = sym (squared_pow L.ring 8 1 a) ∙ ap (squared mul 8) (mul-one L.ring a h) ∙ L.eight_squares a h

  -- a power above 255 has the value of the power less 255
  pub pow_less : (a k : ℕ) → a < 256 → power mul a (256 + k) ≡ power mul a (suc k)
  pow_less a k h = pow_add L.ring a 256 k ∙ ap (λ (x : ℕ). mul x (power mul a k)) (pow_256 a h)
