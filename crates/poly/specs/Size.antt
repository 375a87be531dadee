-- Numbers of terms: how many coefficients are not zero ("The term count behind unknown"). Assumes nothing.
use Rattle.std.specs.Prelude.{ℕ, zero, suc, ◌+◌, List, [], ◌∷◌}
use Rattle.poly.specs.Poly.{term, Poly}

-- 1 for a number other than zero
abbrev pub one_if : ℕ → ℕ
one_if zero = 0
one_if (suc b) = 1

-- how many of the bytes are not zero
abbrev pub nonzeros : List ℕ → ℕ
nonzeros [] = 0
nonzeros (l ∷ ls) = one_if l + nonzeros ls

-- how many of the terms have a coefficient other than zero
abbrev pub support : Poly → ℕ
support [] = 0
support (term c e ∷ p) = one_if c + support p
