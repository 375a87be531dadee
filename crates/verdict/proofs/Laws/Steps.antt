-- The count, statement by statement, as code takes it: each step is read off
-- the values given before it, and no value is larger than its raw size.
-- Assumes nothing.
use Rattle.std.proofs.Common.{◌≡◌, ℕ, suc, ◌≤◌, List, [], ◌∷◌, ◌++◌, length, get_or, take, sym, refl, ap, ◌∙◌, ap₂, append_assoc, append-nil, le_refl, take_at}
use Rattle.field.specs.Laws.{gf}
use Rattle.field.specs.Maps.{coefficients_of}
use Rattle.field.proofs.Laws.Field.{gf_laws}
use Rattle.poly.specs.Poly.{Poly}
use Rattle.poly.proofs.Laws.Size.{add-size, mul-size, map-size}
use Rattle.rules.specs.declared.types.Op.{Op}
use Rattle.rules.specs.declared.types.Op.TheVariants.{Set, Xor, Mul, App, Rand}
use Rattle.rules.specs.declared.types.Statement.{Statement}
use Rattle.rules.specs.declared.types.AffineMap.{AffineMap}
use Rattle.rules.specs.Read.{Routine}
use Rattle.verdict.specs.Meaning.{Algebra, map_at, value_at, operand, given, values}
use Rattle.verdict.specs.Instances.{modulus_of, powers_of, polynomials, polynomials_of}
use Rattle.verdict.specs.Count.{Step, apply_size, raw_size, block_steps}
use Rattle.verdict.proofs.Laws.Value.{modulus_of_lem}

-- the element behind a list
pub get_d_end : {X : Type 0} (vs : List X) (x : X) (ys : List X) (d : X) → get_or (vs ++ x ∷ ys) (length vs) d ≡ x
get_d_end [] x ys d = refl
get_d_end (v ∷ vs) x ys d = get_d_end vs x ys d

-- ---- the values of a block go on from those that it begins with

module _ {X : Type 0} (A : Algebra X) (maps : List AffineMap) (xs : List X) where
  -- what the statements give
  given_by : List X → List Statement → List X
  given_by vs [] = []
  given_by vs (s ∷ ss) = given A maps xs vs s.op ∷ given_by (vs ++ given A maps xs vs s.op ∷ []) ss

  values_begin : (vs : List X) (ss : List Statement) → values A maps xs vs ss ≡ vs ++ given_by vs ss
  unfolding values given_by
  values_begin vs [] = sym (append-nil vs)
  values_begin vs (s ∷ ss) =
      let v = given A maps xs vs s.op in
      values_begin (vs ++ v ∷ []) ss ∙ append_assoc vs (v ∷ []) (given_by (vs ++ v ∷ []) ss)

  -- a block begins with the values that it is given
  pub values-take : (vs : List X) (ss : List Statement) → take (length vs) (values A maps xs vs ss) ≡ vs
  values-take vs ss = ap (take (length vs)) (values_begin vs ss) ∙ take_at vs (given_by vs ss) (length vs) refl

  -- the next value is what the next statement gives
  pub values-given : (vs : List X) (s : Statement) (ss : List Statement) (d : X)
      → get_or (values A maps xs (vs ++ given A maps xs vs s.op ∷ []) ss) (length vs) d ≡ given A maps xs vs s.op
  values-given vs s ss d =
      let v = given A maps xs vs s.op in
      ap (λ (ws : List X). get_or ws (length vs) d)
      (values_begin (vs ++ v ∷ []) ss ∙ append_assoc vs (v ∷ []) (given_by (vs ++ v ∷ []) ss))
      ∙ get_d_end vs v (given_by (vs ++ v ∷ []) ss) d

module _ (r : Routine) (xs : List Poly) where
  -- THEOREM: the steps of a block, one at a time
  pub steps_next : (vs : List Poly) (s : Statement) (ss : List Statement)
      → (let A = polynomials_of r in let v = given A r.maps xs vs s.op in
      block_steps r (values A r.maps xs vs (s ∷ ss)) (length vs) (s ∷ ss)
      ≡ record { line = s.line; raw = raw_size r vs s.op; size = length v }
      ∷ block_steps r (values A r.maps xs (vs ++ v ∷ []) ss) (suc (length vs)) ss)
  unfolding block_steps values
  steps_next vs s ss =
      let A = polynomials_of r in
      let v : Poly = given A r.maps xs vs s.op in
      let ws : List Poly = values A r.maps xs (vs ++ v ∷ []) ss in
      ap₂ {C = List Step}
      (λ (ps : List Poly) (q : Poly). record { line = s.line; raw = raw_size r ps s.op; size = length q }
      ∷ block_steps r ws (suc (length vs)) ss)
      (values-take A r.maps xs vs (s ∷ ss)) (values-given A r.maps xs vs s ss [])

  -- THEOREM: a value is no larger than its raw size, where each variable has one term
  pub given-size : (vs : List Poly) (o : Op) → ((v : ℕ) → length (value_at (polynomials_of r) xs v) ≤ 1)
      → length (given (polynomials_of r) r.maps xs vs o) ≤ raw_size r vs o
  unfolding given raw_size apply_size polynomials_of polynomials
  given-size vs (Set a) h = le_refl _
  given-size vs (Xor a b) h = add-size (gf (modulus_of r)) (operand (polynomials_of r) vs a)
      (operand (polynomials_of r) vs b)
  given-size vs (Mul a b) h = mul-size (gf (modulus_of r)) (operand (polynomials_of r) vs a)
      (operand (polynomials_of r) vs b)
  given-size vs (App f a) h =
      map-size (gf (modulus_of r)) (gf_laws (modulus_of_lem r)) (powers_of r) (map_at r.maps f).constant
      (coefficients_of (modulus_of r) (map_at r.maps f).columns)
      (operand (polynomials_of r) vs a)
  given-size vs (Rand v) h = h v
