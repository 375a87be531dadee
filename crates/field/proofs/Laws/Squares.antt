-- The dual bytes for the modulus 27, squared up to seven times, as one table: a computed test.
-- Assumes nothing.
use mathlib.Core.Path.{◌≡◌, sym, ap, ap₂, ◌∙◌}
use Prim.Native.Nat.{ℕ, ◌+◌, ◌*◌, ◌/◌, ◌%◌, ◌<◌}
use native.Mathlib.Omega.{arith}
use mathlib.Core.List.{List, [], ◌∷◌}
use lib.Dec.{T, eqb}
use lib.ListN.{get_or}
use Rattle.field.specs.Xor.{◌⊕◌}
use Rattle.field.specs.Field.{double, shifted, times, squared}
use Rattle.field.specs.Maps.{dual_of}
use Rattle.field.proofs.Laws.Computed.{each, same_at}

-- eight dual bytes, then their squares, and so on
abbrev pub squared_duals : List (List ℕ)
squared_duals =
    (41 ∷ 176 ∷ 88 ∷ 5 ∷ 166 ∷ 83 ∷ 164 ∷ 82 ∷ []) ∷
    (45 ∷ 237 ∷ 240 ∷ 17 ∷ 226 ∷ 181 ∷ 230 ∷ 180 ∷ []) ∷
    (61 ∷ 12 ∷ 70 ∷ 26 ∷ 89 ∷ 252 ∷ 73 ∷ 253 ∷ []) ∷
    (38 ∷ 80 ∷ 191 ∷ 95 ∷ 241 ∷ 22 ∷ 234 ∷ 23 ∷ []) ∷
    (120 ∷ 176 ∷ 184 ∷ 229 ∷ 71 ∷ 15 ∷ 25 ∷ 14 ∷ []) ∷
    (156 ∷ 237 ∷ 173 ∷ 76 ∷ 190 ∷ 85 ∷ 90 ∷ 84 ∷ []) ∷
    (209 ∷ 12 ∷ 167 ∷ 251 ∷ 185 ∷ 161 ∷ 244 ∷ 160 ∷ []) ∷
    (43 ∷ 80 ∷ 227 ∷ 3 ∷ 172 ∷ 247 ∷ 86 ∷ 246 ∷ []) ∷ []

raised : ℕ → ℕ
raised k = squared (times 27) (k / 8) (get_or (dual_of 27) (k % 8) 0)

tested : T (each 64 (λ k. eqb (get_or (get_or squared_duals (k / 8) []) (k % 8) 0) (raised k)))
unfolding raised times shifted double ◌⊕◌ dual_of
tested = tt

-- entry i of row j is dual byte i squared j times
pub squared_dual : (m i j : ℕ) → m ≡ 27 → i < 8 → j < 8
    → get_or (get_or squared_duals j []) i 0 ≡ squared (times m) j (get_or (dual_of m) i 0)
unfolding raised
squared_dual m i j e h l =
    let k : j * 8 + i < 64 = omega arith in
    let q : (j * 8 + i) / 8 ≡ j = omega arith in
    let r : (j * 8 + i) % 8 ≡ i = omega arith in
    sym (ap₂ (λ (x y : ℕ). get_or (get_or squared_duals x []) y 0) q r)
    ∙ same_at 64 (λ n. get_or (get_or squared_duals (n / 8) []) (n % 8) 0) raised tested (j * 8 + i) k
    ∙ ap₂ (λ (x y : ℕ). squared (times 27) x (get_or (dual_of 27) y 0)) q r
    ∙ ap (λ (x : ℕ). squared (times x) j (get_or (dual_of x) i 0)) (sym e)
