-- What holds of the variables and is kept by the four operations holds of every value of a routine.
-- Assumes nothing.
use Rattle.std.proofs.Common.{ℕ, ◌<◌, List, [], ◌∷◌, ◌++◌, map, arith}
use Rattle.rules.specs.declared.types.Operand.{Operand}
use Rattle.rules.specs.declared.types.Operand.TheVariants.{Place, Byte}
use Rattle.rules.specs.declared.types.Op.{Op}
use Rattle.rules.specs.declared.types.Op.TheVariants.{Set, Xor, Mul, App, Rand}
use Rattle.rules.specs.declared.types.Statement.{Statement}
use Rattle.rules.specs.declared.types.AffineMap.{AffineMap}
use Rattle.rules.specs.Read.{Routine}
use Rattle.verdict.specs.Lists.{lots, behind, poured}
use Rattle.verdict.specs.Meaning.{Algebra, map_at, value_at, operand, given, values, joined, origin_values}
use Rattle.verdict.specs.Meaning.{masked_values, result_in, outputs_in, trace, joined_in, difference_in}
use Rattle.rules.specs.Formed.{Each, FormedOperand, FormedOp, FormedStatement, FormedMap, Formed}
use Rattle.verdict.proofs.Laws.Lists.{each_at, each-lots, each-behind, each-poured, each_map}
use Rattle.rules.proofs.Laws.Letting.{each_append}
use Rattle.verdict.proofs.Laws.Meaning.{formed-map_at}

-- what the operations keep, at bytes and maps that are well formed
pub record Closed {X : Type 0} (A : Algebra X) (P : X → Type 0) : Type 0 where
  pub byte : (c : ℕ) → c < 256 → P (A.byte c)
  pub add : (u v : X) → P u → P v → P (A.add u v)
  pub mul : (u v : X) → P u → P v → P (A.mul u v)
  pub apply : (f : AffineMap) → FormedMap f → (v : X) → P v → P (A.apply f v)

module _ {X : Type 0} {A : Algebra X} {P : X → Type 0} (C : Closed A P) where
  -- the value at a place
  pub value_at-closed : (vs : List X) → Each P vs → (i : ℕ) → P (value_at A vs i)
  unfolding value_at
  value_at-closed vs h i = each_at P vs (A.byte 0) h (C.byte 0 (omega arith)) i

  -- an operand
  pub operand-closed : (vs : List X) → Each P vs → (a : Operand) → FormedOperand a → P (operand A vs a)
  unfolding operand
  operand-closed vs h (Place i) f = value_at-closed vs h i
  operand-closed vs h (Byte b) f = C.byte b f

  given-closed : (maps : List AffineMap) → Each FormedMap maps → (xs vs : List X) → Each P xs → Each P vs → (o : Op)
      → FormedOp o
      → P (given A maps xs vs o)
  unfolding given
  given-closed maps m xs vs g h (Set a) f = operand-closed vs h a f
  given-closed maps m xs vs g h (Xor a b) f =
      C.add (operand A vs a) (operand A vs b) (operand-closed vs h a f.0) (operand-closed vs h b f.1)
  given-closed maps m xs vs g h (Mul a b) f =
      C.mul (operand A vs a) (operand A vs b) (operand-closed vs h a f.0) (operand-closed vs h b f.1)
  given-closed maps m xs vs g h (App k a) f =
      C.apply (map_at maps k) (formed-map_at maps m k) (operand A vs a) (operand-closed vs h a f)
  given-closed maps m xs vs g h (Rand v) f = value_at-closed xs g v

  -- the values of a block
  pub values-closed : (maps : List AffineMap) → Each FormedMap maps → (xs vs : List X) → Each P xs → Each P vs
      → (ss : List Statement) → Each FormedStatement ss → Each P (values A maps xs vs ss)
  unfolding values
  values-closed maps m xs vs g h [] f = h
  values-closed maps m xs vs g h (s ∷ ss) f =
      values-closed maps m xs (vs ++ given A maps xs vs s.op ∷ []) g
      (each_append P vs (given A maps xs vs s.op ∷ []) h (given-closed maps m xs vs g h s.op f.0, tt)) ss
      f.1

  -- the XOR of a list
  pub joined-closed : (vs : List X) → Each P vs → P (joined A vs)
  unfolding joined
  joined-closed [] h = C.byte 0 (omega arith)
  joined-closed (v ∷ vs) h = C.add v (joined A vs) h.0 (joined-closed vs h.1)

  each-place : (vs : List X) → Each P vs → (ps : List ℕ) → Each P (map (value_at A vs) ps)
  each-place vs h [] = tt
  each-place vs h (p ∷ ps) = (value_at-closed vs h p, each-place vs h ps)

  module _ (r : Routine) (F : Formed r) (xs : List X) (h : Each P xs) where
    shares-closed : Each (Each P) (lots r.shares r.inputs xs)
    shares-closed = each-lots P r.shares r.inputs xs h

    -- the values of the origin block
    pub origin-closed : Each P (trace A r xs).origin
    unfolding trace origin_values
    origin-closed =
        values-closed r.maps F.maps [] (map (joined A) (lots r.shares r.inputs xs)) tt
        (each_map (Each P) P (joined A) joined-closed (lots r.shares r.inputs xs) shares-closed) r.origin
        F.origin

    -- the values of the masked block
    pub masked-closed : Each P (trace A r xs).masked
    unfolding trace masked_values
    masked-closed =
        let ss = lots r.shares r.inputs xs in
        let rs = behind r.shares r.inputs xs in
        values-closed r.maps F.maps (poured ss ++ rs) (poured ss)
        (each_append P (poured ss) rs (each-poured P ss shares-closed) (each-behind P r.shares r.inputs xs h))
        (each-poured P ss shares-closed) r.masked F.masked

    -- the original's result
    pub result-closed : P (result_in A r (trace A r xs).origin)
    unfolding result_in
    result-closed = value_at-closed (trace A r xs).origin origin-closed r.result

    -- the joined outputs
    pub joined_in-closed : P (joined_in A r (trace A r xs))
    unfolding joined_in outputs_in
    joined_in-closed =
        joined-closed (outputs_in A r (trace A r xs).masked)
        (each-place (trace A r xs).masked masked-closed r.outputs)

    -- THEOREM: the difference
    pub difference-closed : P (difference_in A r (trace A r xs))
    unfolding difference_in
    difference-closed =
        C.add (result_in A r (trace A r xs).origin) (joined_in A r (trace A r xs)) result-closed joined_in-closed
