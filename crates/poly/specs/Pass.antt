-- A normal form in one pass, of a list whose powers never fall: neighbours with the same powers are joined.
-- Assumes nothing.
use Prim.Native.Nat.{ℕ, Ordering}
use Rattle.std.specs.Prelude.{List, [], ◌∷◌}
use Rattle.field.specs.Laws.{Ops}
use Rattle.poly.specs.Poly.{term, Poly, order, keep}

module _ (F : Ops) where
  open F use {add, mul}

  -- with the coefficient c gathered for the powers e, by the order of e and the next powers: the next
  -- term joins, or c is done
  abbrev pub gather_at : Ordering → ℕ → List ℕ → Poly → Poly → Poly
  gather_at Ordering.lt c e joined rest = keep c e rest
  gather_at Ordering.eq c e joined rest = joined
  gather_at Ordering.gt c e joined rest = keep c e rest

  -- the pass, with the coefficient c gathered so far for the powers e
  abbrev pub gather : ℕ → List ℕ → Poly → Poly
  gather c e [] = keep c e []
  gather c e (term d f ∷ q) = let j = gather (add c d) e q in let r = gather d f q in gather_at (order e f) c e j r

  -- the pass over a whole list
  abbrev pub pass : Poly → Poly
  pass [] = []
  pass (term c e ∷ q) = gather c e q
