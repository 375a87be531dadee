-- The variables that are left in a polynomial ("Reduced polynomials", M-102): those with a power above 0 in some term.
-- Assumes nothing.
use Rattle.std.specs.Prelude.{ℕ, zero, suc, ◌+◌, ◌≡◌, Bool, false, ◌||◌, List, [], ◌∷◌, ltb, get_or}
use Rattle.poly.specs.Poly.{term, Poly}

-- some term has a power of variable i above 0
unfoldable pub occurs : ℕ → Poly → Bool
occurs i [] = false
occurs i (term c e ∷ p) = ltb 0 (get_or e i 0) || occurs i p

-- so it is for one of the k variables from i on
unfoldable pub some_occurs : (i k : ℕ) → Poly → Bool
some_occurs i zero p = false
some_occurs i (suc k) p = some_occurs i k p || occurs (i + k) p

-- powers with none of variable i
abbrev pub Without : ℕ → List ℕ → Type 0
Without i e = get_or e i 0 ≡ 0
