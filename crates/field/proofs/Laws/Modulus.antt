-- The two fields: 1 is the 255th power of each byte but 0.
-- Two tests for each modulus: eight squarings give back 1, 2, 4, .. 128; and no byte but 0 and 1 is its own square.
-- Assumes nothing.
use mathlib.Core.Path.{◌≡◌, refl, sym, ap, ◌∙◌, subst}
use mathlib.Core.Bool.{Bool, true, false}
use Prim.Native.Nat.{ℕ, ◌^◌, ◌<◌}
use lib.Dec.{T, eqb, ltb, ltb→lt, lit<}
use borrow.Author.Tests.{eq-eqb}
use Rattle.field.specs.Xor.{◌⊕◌}
use Rattle.field.specs.Field.{Modulus, double, shifted, times, power, squared}
use Rattle.field.specs.Field.Modulus.{aes, seal}
use Rattle.field.specs.Laws.{Ring, Periodic, over}
use Rattle.field.proofs.Laws.Xor.{bit_cases}
use Rattle.field.proofs.Laws.Computed.{each, each_at, same_at}
use Rattle.field.proofs.Laws.Linear.{agree-byte}
use Rattle.field.proofs.Laws.Ring.{ring}
use Rattle.field.proofs.Laws.Algebra.{mul-zero, pow_byte, pow_add}
use Rattle.field.proofs.Laws.Powers.{power-suc, power-squared, squared-spread}

abbrev implies : Bool → Bool → Bool
implies true b = b
implies false b = true

-- a byte that is its own square is 0 or 1
abbrev idempotent : (ℕ → ℕ → ℕ) → ℕ → Bool
idempotent mul e = implies (eqb (mul e e) e) (ltb e 2)

record Tested (mul : ℕ → ℕ → ℕ) : Type 0 where
  roots : T (each 8 (λ i. eqb (squared mul 8 (2 ^ i)) (2 ^ i)))
  idempotents : T (each 256 (idempotent mul))

module _ {mul : ℕ → ℕ → ℕ} (R : Ring (over mul)) (P : Tested mul) where
  fermat : (a : ℕ) → a < 256 → power mul a 256 ≡ a
  fermat a h =
      power-squared R 8 a h
      ∙ agree-byte (squared mul 8) (λ a. a) (squared-spread R 8) (λ a b. refl)
      (same_at 8 (λ i. squared mul 8 (2 ^ i)) (λ i. 2 ^ i) P.roots) a h

  own_square : (e : ℕ) → e < 256 → mul e e ≡ e → e < 2
  own_square e h q =
      ltb→lt e 2 (subst (λ b. T (implies b (ltb e 2))) (eq-eqb (mul e e) e q)
      (each_at 256 (idempotent mul) P.idempotents e h))

  period : (a : ℕ) → a < 256 → (a ≡ 0 → ⊥) → power mul a 255 ≡ 1
  period a h n = go (power mul a 255) (own_square (power mul a 255) (pow_byte R a 255) square) refl
    where
      square : mul (power mul a 255) (power mul a 255) ≡ power mul a 255
      square =
          sym (pow_add R a 255 255) ∙ pow_add R a 254 256 ∙ ap (mul (power mul a 254)) (fermat a h)
          ∙ R.mul_comm (power mul a 254) a ∙ sym (power-suc mul a 254)

      go : (e : ℕ) → e < 2 → power mul a 255 ≡ e → power mul a 255 ≡ 1
      go =
          bit_cases (λ e. power mul a 255 ≡ e → power mul a 255 ≡ 1)
          (λ q. absurd (n (sym (fermat a h) ∙ power-suc mul a 255 ∙ ap (mul a) q ∙ mul-zero R a))) (λ q. q)

  field : Periodic mul
  field = record { ring = R; period = period }

-- ---- the two moduli

tested-27 : Tested (times 27)
unfolding times shifted double ◌⊕◌
tested-27 = record { roots = tt; idempotents = tt }

tested-29 : Tested (times 29)
unfolding times shifted double ◌⊕◌
tested-29 = record { roots = tt; idempotents = tt }

-- the low byte of a modulus is a byte
pub modulus_lt : {m : ℕ} → Modulus m → m < 256
modulus_lt aes = lit< tt
modulus_lt seal = lit< tt

-- both moduli give a field
pub periodic : {m : ℕ} → Modulus m → Periodic (times m)
periodic aes = field (ring 27 (lit< tt)) tested-27
periodic seal = field (ring 29 (lit< tt)) tested-29
