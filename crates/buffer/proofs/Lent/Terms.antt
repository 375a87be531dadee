-- The product of two terms, byte by byte. Assumes nothing.
use mathlib.Core.Path.{◌≡◌, refl, sym, ap, ap₂, ◌∙◌}
use mathlib.Core.List.{List, [], ◌∷◌}
use Prim.Native.Nat.{ℕ, zero, suc, ◌+◌, ◌-◌, ◌≤◌, ◌<◌}
use native.Mathlib.Omega.{arith}
use native.Mathlib.Decide.{dec_le}
use native.Mathlib.Nat.{le_of_suc-le-suc}
use lib.ListN.{length, get_or, take, drop, length-drop}
use lib.Seq.{ext_get_or, get_or-drop, take_all}
use Rattle.poly.specs.Poly.{reduce, add_pows}
use Rattle.buffer.specs.Move.{Written}

-- ---- powers

-- where the first factor has no more powers, as many as the second has
add_pows-length : (e f : List ℕ) → length e ≤ length f → length (add_pows e f) ≡ length f
add_pows-length [] f h = refl
add_pows-length (a ∷ e) [] h = absurd (omega arith)
add_pows-length (a ∷ e) (b ∷ f) h = ap suc (add_pows-length e f (le_of_suc-le-suc h))

-- each power that both have is the reduced sum
add_pows-both : (e f : List ℕ) (i : ℕ) → i < length e → length e ≤ length f
    → get_or (add_pows e f) i 0 ≡ reduce (get_or e i 0 + get_or f i 0)
add_pows-both [] f i l h = absurd (omega arith)
add_pows-both (a ∷ e) [] i l h = absurd (omega arith)
add_pows-both (a ∷ e) (b ∷ f) zero l h = refl
add_pows-both (a ∷ e) (b ∷ f) (suc i) l h = add_pows-both e f i (le_of_suc-le-suc l) (le_of_suc-le-suc h)

-- a power that the first lacks is the second's
add_pows-rest : (e f : List ℕ) (i : ℕ) → length e ≤ i → length e ≤ length f → get_or (add_pows e f) i 0 ≡ get_or f i 0
add_pows-rest [] f i l h = refl
add_pows-rest (a ∷ e) [] i l h = absurd (omega arith)
add_pows-rest (a ∷ e) (b ∷ f) zero l h = absurd (omega arith)
add_pows-rest (a ∷ e) (b ∷ f) (suc i) l h = add_pows-rest e f i (le_of_suc-le-suc l) (le_of_suc-le-suc h)

-- a byte behind the first
second : (p : List ℕ) (i : ℕ) → get_or (drop 1 p) i 0 ≡ get_or p (suc i) 0
second p i =
    let s : 1 + i ≡ suc i = omega arith in
    get_or-drop 1 p i 0 ∙ ap (λ (x : ℕ). get_or p x 0) s

-- ---- the loop: the coefficient c and the powers below j are written

-- the coefficient c and the powers below j are written
pub record Begun (p q t₀ t : List ℕ) (c j : ℕ) : Type 0 where
  pub size : length t ≡ length t₀
  pub first : get_or t 0 0 ≡ c
  pub powers : (i : ℕ) → 0 < i → i < j → get_or t i 0 ≡ reduce (get_or p i 0 + get_or q i 0)

-- every power that p has is written, and those of q that p lacks are copied behind them
module _ {p q t₀ t t' : List ℕ} {c j : ℕ} (h : Begun p q t₀ t c j)
    (g : Written t t' j (take (length q - j) (drop j q)))
    (some : 0 < j) (all : j ≡ length p) (within : length p ≤ length q) (same : length q ≡ length t₀) where
  -- the powers of p are no more than those of q
  fewer : length (drop 1 p) ≤ length (drop 1 q)
  fewer = omega (arith, length-drop 1 p, length-drop 1 q)

  -- a byte that was copied
  copied : (i : ℕ) → j ≤ i → i < length q → get_or t' i 0 ≡ get_or q i 0
  copied i k l =
      let x : i ≡ j + (i - j) = omega arith in
      let r : take (length q - j) (drop j q) ≡ drop j q =
      take_all (length q - j) (drop j q) (omega (arith, length-drop j q)) in
      ap (λ (y : ℕ). get_or t' y 0) x
      ∙ g.here (i - j) (omega (arith, ap length r, length-drop j q))
      ∙ ap (λ (y : List ℕ). get_or y (i - j) 0) r ∙ get_or-drop j q (i - j) 0
      ∙ sym (ap (λ (y : ℕ). get_or q y 0) x)

  -- each power is that of the product
  power_at : (i : ℕ) → suc i < length q → Dec (suc i < j)
      → get_or t' (suc i) 0 ≡ get_or (add_pows (drop 1 p) (drop 1 q)) i 0
  power_at i l (yes k) =
      g.low (suc i) k ∙ h.powers (suc i) (omega arith) k
      ∙ sym (add_pows-both (drop 1 p) (drop 1 q) i (omega (arith, length-drop 1 p)) fewer
      ∙ ap₂ (λ (x y : ℕ). reduce (x + y)) (second p i) (second q i))
  power_at i l (no k) =
      copied (suc i) (omega arith) l
      ∙ sym (add_pows-rest (drop 1 p) (drop 1 q) i (omega (arith, length-drop 1 p)) fewer ∙ second q i)

  -- each byte is that of the product
  byte_at : (i : ℕ) → i < length t' → get_or t' i 0 ≡ get_or (c ∷ add_pows (drop 1 p) (drop 1 q)) i 0
  byte_at zero l = g.low 0 some ∙ h.first
  byte_at (suc i) l = power_at i (omega (arith, g.size, h.size)) (dec_le (suc (suc i)) j)

  -- at last the product stands there
  pub begun_all : t' ≡ c ∷ add_pows (drop 1 p) (drop 1 q)
  begun_all =
      ext_get_or 0 t' (c ∷ add_pows (drop 1 p) (drop 1 q))
      (omega (arith, g.size, h.size, add_pows-length (drop 1 p) (drop 1 q) fewer, length-drop 1 q)) byte_at
