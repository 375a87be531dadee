-- The power of a variable: up to 255 it stays, above 255 it loses 255, again if needed; so it is a byte, and its value
-- at every byte stays. It turns on a^256 being a. Assumes nothing.
use mathlib.Core.Path.{◌≡◌, sym, ap, ◌∙◌}
use mathlib.Core.Bool.{Bool}
use Prim.Native.Nat.{ℕ, zero, suc, ◌+◌, ◌*◌, ◌-◌, ◌/◌, ◌%◌, ◌≤◌, ◌<◌}
use native.Mathlib.Omega.{arith}
use native.Mathlib.Decide.{dec_le}
use native.Mathlib.Nat.{suc-mul}
use borrow.Author.Tests.{lt-ltb, le-ltb}
use Rattle.field.specs.Field.{power}
use Rattle.field.specs.Laws.{Ops, Laws}
use Rattle.poly.specs.Poly.{pick, reduce}
use Rattle.field.proofs.Laws.Algebra.{pow_less}

-- a power up to 255 stays
pub reduce-same : (e : ℕ) → e ≤ 255 → reduce e ≡ e
reduce-same e h = ap (λ (t : Bool). pick t (suc ((e - 256) % 255)) e) (le-ltb 255 e h)

-- a power above 255 is brought to 1 to 255
reduce-above : (e : ℕ) → 255 < e → reduce e ≡ suc ((e - 256) % 255)
reduce-above e h = ap (λ (t : Bool). pick t (suc ((e - 256) % 255)) e) (lt-ltb 255 e h)

-- a power above 255 becomes the power less 255, again if needed
pub reduce-less : (e : ℕ) → 255 < e → reduce e ≡ reduce (e - 255)
reduce-less e h = go (dec_le (e - 255) 255)
  where
    go : Dec (e - 255 ≤ 255) → reduce e ≡ reduce (e - 255)
    go (yes l) =
        let s : suc ((e - 256) % 255) ≡ e - 255 = omega arith in
        reduce-above e h ∙ s ∙ sym (reduce-same (e - 255) l)
    go (no l) =
        let k : 255 < e - 255 = omega arith in
        let s : suc ((e - 256) % 255) ≡ suc ((e - 255 - 256) % 255) = omega arith in
        reduce-above e h ∙ s ∙ sym (reduce-above (e - 255) k)

-- the power in a product of two terms
pub reduce-sum : (a b : ℕ) → 255 < a + b → a + b ≤ 510 → reduce (a + b) ≡ a + b - 255
reduce-sum a b h k = reduce-less (a + b) h ∙ reduce-same (a + b - 255) (omega arith)

-- a reduced power is at most 255
pub reduce-byte : (e : ℕ) → reduce e ≤ 255
reduce-byte e = go (dec_le e 255)
  where
    go : Dec (e ≤ 255) → reduce e ≤ 255
    go (yes h) = omega (arith, reduce-same e h)
    go (no h) =
        let k : 255 < e = omega arith in
        omega (arith, reduce-above e k)

module _ (F : Ops) (L : Laws F) (a : ℕ) (h : a < 256) where
  open F use {mul}

  -- 255 taken off q times
  pow_turns : (q r : ℕ) → power mul a (suc (r + q * 255)) ≡ power mul a (suc r)
  pow_turns zero r =
      let s : suc (r + zero * 255) ≡ suc r = omega arith in
      ap (power mul a) s
  pow_turns (suc q) r =
      let s : suc (r + suc q * 255) ≡ 256 + (r + q * 255) = omega (arith, suc-mul q 255) in
      ap (power mul a) s ∙ pow_less L a (r + q * 255) h ∙ pow_turns q r

  -- THEOREM: a reduced power has the same value at every byte
  pub pow_reduce : (e : ℕ) → power mul a (reduce e) ≡ power mul a e
  pow_reduce e = go (dec_le e 255)
    where
      go : Dec (e ≤ 255) → power mul a (reduce e) ≡ power mul a e
      go (yes l) = ap (power mul a) (reduce-same e l)
      go (no l) =
          let k : 255 < e = omega arith in
          let d : ℕ = e - 256 in
          let s : 256 + d ≡ e = omega arith in
          let u : suc (d % 255 + d / 255 * 255) ≡ suc d = omega arith in
          ap (power mul a) (reduce-above e k) ∙ sym (pow_turns (d / 255) (d % 255)) ∙ ap (power mul a) u
          ∙ sym (pow_less L a d h) ∙ ap (power mul a) s
