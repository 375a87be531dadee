-- The dual bytes of the two fields, by three small tests for each modulus.
-- Assumes nothing.
use mathlib.Core.Path.{◌≡◌, refl, sym, ap, ◌∙◌}
use mathlib.Core.List.{List}
use Prim.Native.Nat.{ℕ, zero, suc, ◌+◌, ◌-◌, ◌/◌, ◌%◌, ◌^◌, ◌<◌, ◌≤◌}
use native.Mathlib.Nat.{zero-add, suc-add}
use native.Mathlib.Decide.{dec_le}
use native.Mathlib.Omega.{arith}
use lib.Dec.{T, eqb, lit<}
use lib.ListN.{get_or}
use Rattle.field.specs.Xor.{◌⊕◌}
use Rattle.field.specs.Field.{Modulus, double, shifted, times, squared}
use Rattle.field.specs.Field.Modulus.{aes, seal}
use Rattle.field.specs.Laws.{Ring, over}
use Rattle.field.specs.Maps.{sum, dual_of}
use Rattle.field.proofs.Laws.Computed.{each, each_at, same_at}
use Rattle.field.proofs.Laws.Linear.{agree-byte}
use Rattle.field.proofs.Laws.Xor.{⊕_shr, ⊕_mod}
use Rattle.field.proofs.Laws.Ring.{ring}
use Rattle.field.proofs.Laws.Powers.{squared-spread, squared-mul, squared-add, squared-zero, squared-one}
use Rattle.field.proofs.Laws.Sums.{sum_cong, sum-spread, sum-map, sum_first, delta}
use Rattle.field.proofs.Laws.Maps.{Dual, bits}

-- a + a^2 + a^4 + .., n terms
trace : (ℕ → ℕ → ℕ) → ℕ → ℕ → ℕ
trace mul zero a = 0
trace mul (suc n) a = a ⊕ trace mul n (mul a a)

trace-sum : (mul : ℕ → ℕ → ℕ) (n a : ℕ) → trace mul n a ≡ sum n (λ j. squared mul j a)
unfolding trace sum
trace-sum mul zero a = refl
trace-sum mul (suc n) a = ap (λ x. a ⊕ x) (trace-sum mul n (mul a a)) ∙ sym (sum_first n (λ j. squared mul j a))

-- ---- the tests

record Tested (mul : ℕ → ℕ → ℕ) (dual : List ℕ) : Type 0 where
  picks : T (each 8 (λ i. each 8 (λ k. eqb (trace mul 8 (mul (get_or dual i 0) (2 ^ k))) (delta i k))))
  upper : T (each 8 (λ d. eqb (sum 8 (λ k. mul (2 ^ k) (squared mul d (get_or dual k 0)))) (delta 0 d)))
  lower : T (each 8 (λ d. eqb (sum 8 (λ k. mul (squared mul d (2 ^ k)) (get_or dual k 0))) (delta d 0)))

-- ---- what they give

delta-add : (i d : ℕ) → delta i (i + d) ≡ delta 0 d
delta-add zero d = ap (delta 0) (zero-add d)
delta-add (suc i) d = ap (delta (suc i)) (suc-add i d) ∙ delta-add i d

add-delta : (i d : ℕ) → delta (i + d) i ≡ delta d 0
add-delta zero d = ap (λ x. delta x 0) (zero-add d)
add-delta (suc i) d = ap (λ x. delta x (suc i)) (suc-add i d) ∙ add-delta i d

module _ {mul : ℕ → ℕ → ℕ} (R : Ring (over mul)) {dual : List ℕ} (P : Tested mul dual) where
  picks : (i x : ℕ) → i < 8 → x < 256 → sum 8 (λ j. squared mul j (mul (get_or dual i 0) x)) ≡ x / 2 ^ i % 2
  picks i x hi =
      agree-byte (λ x. sum 8 (λ j. squared mul j (mul (get_or dual i 0) x))) (λ x. x / 2 ^ i % 2)
      (λ a b. sum_cong 8 (λ j h. ap (squared mul j) (R.distrib (get_or dual i 0) a b)
      ∙ squared-spread R j (mul (get_or dual i 0) a) (mul (get_or dual i 0) b))
      ∙ sum-spread 8 (λ j. squared mul j (mul (get_or dual i 0) a)) (λ j. squared mul j (mul (get_or dual i 0) b)))
      (λ a b. ap (λ x. x % 2) (⊕_shr i a b) ∙ ⊕_mod 1 (a / 2 ^ i) (b / 2 ^ i))
      (λ k hk. sym (trace-sum mul 8 (mul (get_or dual i 0) (2 ^ k)))
      ∙ same_at 8 (λ k. trace mul 8 (mul (get_or dual i 0) (2 ^ k))) (delta i)
      (each_at 8 (λ i. each 8 (λ k. eqb (trace mul 8 (mul (get_or dual i 0) (2 ^ k))) (delta i k))) P.picks i hi) k hk
      ∙ sym (bits i k hi hk))
      x

  -- the sum for i and i + d is the one for 0 and d, squared i times
  raise : (i : ℕ) (f g : ℕ → ℕ) → sum 8 (λ k. mul (squared mul i (f k)) (squared mul i (g k))) ≡ squared mul i
      (sum 8 (λ k. mul (f k) (g k)))
  raise i f g =
      sum_cong 8 (λ k h. sym (squared-mul R i (f k) (g k)))
      ∙ sym (sum-map (squared mul i) (squared-spread R i) 8 (λ k. mul (f k) (g k)))

  squared-delta : (i a b : ℕ) → squared mul i (delta a b) ≡ delta a b
  squared-delta i zero zero = squared-one R i
  squared-delta i zero (suc b) = squared-zero R i
  squared-delta i (suc a) zero = squared-zero R i
  squared-delta i (suc a) (suc b) = squared-delta i a b

  gather : ℕ → ℕ → ℕ
  gather i j = sum 8 (λ k. mul (squared mul i (2 ^ k)) (squared mul j (get_or dual k 0)))

  above : (i d : ℕ) → d < 8 → gather i (d + i) ≡ delta i (i + d)
  unfolding gather
  above i d h =
      sum_cong 8 (λ k l. ap (mul (squared mul i (2 ^ k))) (squared-add R i d (get_or dual k 0)))
      ∙ raise i (λ k. 2 ^ k) (λ k. squared mul d (get_or dual k 0))
      ∙ ap (squared mul i) (same_at 8 (λ d. sum 8 (λ k. mul (2 ^ k) (squared mul d (get_or dual k 0)))) (delta 0)
      P.upper d h)
      ∙ squared-delta i 0 d ∙ sym (delta-add i d)

  beneath : (j d : ℕ) → d < 8 → gather (d + j) j ≡ delta (j + d) j
  unfolding gather
  beneath j d h =
      sum_cong 8 (λ k l. ap (λ x. mul x (squared mul j (get_or dual k 0))) (squared-add R j d (2 ^ k)))
      ∙ raise j (λ k. squared mul d (2 ^ k)) (λ k. get_or dual k 0)
      ∙ ap (squared mul j) (same_at 8 (λ d. sum 8 (λ k. mul (squared mul d (2 ^ k)) (get_or dual k 0))) (λ d. delta d 0)
      P.lower d h)
      ∙ squared-delta j d 0 ∙ sym (add-delta j d)

  gathers : (i j : ℕ) → i < 8 → j < 8 → gather i j ≡ delta i j
  gathers i j hi hj = go (dec_le i j)
    where
      go : Dec (i ≤ j) → gather i j ≡ delta i j
      go (yes l) =
          let p : j ≡ j - i + i = omega arith in
          let q : i + (j - i) ≡ j = omega arith in
          ap (gather i) p ∙ above i (j - i) (omega arith) ∙ ap (delta i) q
      go (no l) =
          let p : i ≡ i - j + j = omega arith in
          let q : j + (i - j) ≡ i = omega arith in
          ap (λ x. gather x j) p ∙ beneath j (i - j) (omega arith) ∙ ap (λ x. delta x j) q

  dual_laws : Dual mul dual
  unfolding gather
  dual_laws = record { picks = picks; gathers = gathers }

-- ---- the two fields

tested-27 : Tested (times 27) (dual_of 27)
unfolding times shifted double ◌⊕◌ sum dual_of trace
tested-27 = record { picks = tt; upper = tt; lower = tt }

tested-29 : Tested (times 29) (dual_of 29)
unfolding times shifted double ◌⊕◌ sum dual_of trace
tested-29 = record { picks = tt; upper = tt; lower = tt }

-- the dual bytes of each modulus do what they are for
pub duals : {m : ℕ} → Modulus m → Dual (times m) (dual_of m)
duals aes = dual_laws (ring 27 (lit< tt)) tested-27
duals seal = dual_laws (ring 29 (lit< tt)) tested-29
