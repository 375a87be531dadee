-- Terms in a lent buffer: a term is n + 1 bytes, its coefficient and then its n powers, and terms stand one after
-- another. Every contract says through `read_terms` which terms stand there. Assumes nothing.
use Prim.Native.Nat.{ℕ, zero, suc, ◌+◌}
use Prim.Native.Nat.{Ordering as Order}
use Rattle.std.specs.declared.cmp.Ordering.{Ordering}
use Rattle.std.specs.declared.cmp.Ordering.TheVariants.{Less, Equal, Greater}
use Rattle.std.specs.Prelude.{List, [], ◌∷◌, get_or, take, drop}
use Rattle.poly.specs.Poly.{Term, term, Poly}

-- the term at byte `at`
abbrev pub term_at : ℕ → List ℕ → ℕ → Term
term_at n b at = term (get_or b at 0) (take n (drop (suc at) b))

-- the m terms from byte `at` on
abbrev pub read_terms : ℕ → List ℕ → ℕ → ℕ → Poly
read_terms n b at zero = []
read_terms n b at (suc m) = term_at n b at ∷ read_terms n b (at + suc n) m

-- the answer of a comparison as code gives it
abbrev pub answer : Order → Ordering
answer Order.lt = Less
answer Order.eq = Equal
answer Order.gt = Greater
