-- One interpretation, many values: what takes the operations of one algebra to those of another takes every value of a
-- routine to its value there.
-- Assumes nothing.
use Rattle.std.proofs.Common.{◌≡◌, ℕ, ◌<◌, List, [], ◌∷◌, ◌++◌, map, get_or, replicate, sym, refl, ap, ◌∙◌, ap₂, arith}
use mathlib.Core.List.{map-append}
use lib.ListN.{get_or-map}
use Rattle.rules.specs.declared.types.Operand.{Operand}
use Rattle.rules.specs.declared.types.Operand.TheVariants.{Place, Byte}
use Rattle.rules.specs.declared.types.Op.{Op}
use Rattle.rules.specs.declared.types.Op.TheVariants.{Set, Xor, Mul, App, Rand}
use Rattle.rules.specs.declared.types.Statement.{Statement}
use Rattle.rules.specs.declared.types.AffineMap.{AffineMap}
use Rattle.rules.specs.Read.{Routine}
use Rattle.verdict.specs.Lists.{lots, behind, poured}
use Rattle.verdict.specs.Meaning.{Algebra, map_at, value_at, operand, given, values, joined, origin_values}
use Rattle.verdict.specs.Meaning.{masked_values, result_in, outputs_in, trace, joined_in, difference_in}
use Rattle.rules.specs.Formed.{Each, IsByte, FormedOperand, FormedOp, FormedStatement, FormedMap, Formed}
use Rattle.verdict.proofs.Laws.Lists.{map-lots, map-behind, map-poured, each_at, each-replicate}

-- what takes operations to operations, at bytes and maps that are well formed
pub record Homomorphism {X Y : Type 0} (A : Algebra X) (B : Algebra Y) (h : X → Y) : Type 0 where
  pub byte : (c : ℕ) → c < 256 → h (A.byte c) ≡ B.byte c
  pub add : (u v : X) → h (A.add u v) ≡ B.add (h u) (h v)
  pub mul : (u v : X) → h (A.mul u v) ≡ B.mul (h u) (h v)
  pub apply : (f : AffineMap) → FormedMap f → (v : X) → h (A.apply f v) ≡ B.apply f (h v)

-- the map at a place is well formed
pub formed-map_at : (maps : List AffineMap) → Each FormedMap maps → (f : ℕ) → FormedMap (map_at maps f)
unfolding map_at
formed-map_at maps h f =
    each_at FormedMap maps (record { constant = 0; columns = replicate 8 0 }) h
    (record { constant = omega arith; eight = refl; columns = each-replicate IsByte 8 0 (omega arith) }) f

module _ {X Y : Type 0} {A : Algebra X} {B : Algebra Y} {h : X → Y} (H : Homomorphism A B h) where
  zero_hom : h (A.byte 0) ≡ B.byte 0
  zero_hom = H.byte 0 (omega arith)

  -- the value at a place
  pub value_at_hom : (vs : List X) (i : ℕ) → h (value_at A vs i) ≡ value_at B (map h vs) i
  unfolding value_at
  value_at_hom vs i = sym (get_or-map h vs i (A.byte 0)) ∙ ap (get_or (map h vs) i) zero_hom

  operand_hom : (vs : List X) (a : Operand) → FormedOperand a → h (operand A vs a) ≡ operand B (map h vs) a
  unfolding operand
  operand_hom vs (Place i) f = value_at_hom vs i
  operand_hom vs (Byte b) f = H.byte b f

  given_hom : (maps : List AffineMap) → Each FormedMap maps → (xs vs : List X) (o : Op) → FormedOp o
      → h (given A maps xs vs o) ≡ given B maps (map h xs) (map h vs) o
  unfolding given
  given_hom maps m xs vs (Set a) f = operand_hom vs a f
  given_hom maps m xs vs (Xor a b) f =
      H.add (operand A vs a) (operand A vs b) ∙ ap₂ B.add (operand_hom vs a f.0) (operand_hom vs b f.1)
  given_hom maps m xs vs (Mul a b) f =
      H.mul (operand A vs a) (operand A vs b) ∙ ap₂ B.mul (operand_hom vs a f.0) (operand_hom vs b f.1)
  given_hom maps m xs vs (App g a) f =
      H.apply (map_at maps g) (formed-map_at maps m g) (operand A vs a)
      ∙ ap (B.apply (map_at maps g)) (operand_hom vs a f)
  given_hom maps m xs vs (Rand v) f = value_at_hom xs v

  -- every value of a block
  pub values_hom : (maps : List AffineMap) → Each FormedMap maps → (xs vs : List X) (ss : List Statement)
      → Each FormedStatement ss → map h (values A maps xs vs ss) ≡ values B maps (map h xs) (map h vs) ss
  unfolding values
  values_hom maps m xs vs [] f = refl
  values_hom maps m xs vs (s ∷ ss) f =
      values_hom maps m xs (vs ++ given A maps xs vs s.op ∷ []) ss f.1
      ∙ ap (λ (ws : List Y). values B maps (map h xs) ws ss)
      (map-append h vs (given A maps xs vs s.op ∷ [])
      ∙ ap (λ (y : Y). map h vs ++ y ∷ []) (given_hom maps m xs vs s.op f.0))

  -- the XOR of a list
  pub joined_hom : (vs : List X) → h (joined A vs) ≡ joined B (map h vs)
  unfolding joined
  joined_hom [] = zero_hom
  joined_hom (v ∷ vs) = H.add v (joined A vs) ∙ ap (B.add (h v)) (joined_hom vs)

  joins_hom : (ss : List (List X)) → map h (map (joined A) ss) ≡ map (joined B) (map (map h) ss)
  joins_hom [] = refl
  joins_hom (s ∷ ss) = ap₂ {C = List Y} ◌∷◌ (joined_hom s) (joins_hom ss)

  module _ (r : Routine) (F : Formed r) where
    -- the values of the origin block
    pub origin_values_hom : (as' : List X) → map h (origin_values A r as') ≡ origin_values B r (map h as')
    unfolding origin_values
    origin_values_hom as' = values_hom r.maps F.maps [] as' r.origin F.origin

    -- the values of the masked block
    pub masked_values_hom : (ss : List (List X)) (rs : List X)
        → map h (masked_values A r ss rs) ≡ masked_values B r (map (map h) ss) (map h rs)
    unfolding masked_values
    masked_values_hom ss rs =
        values_hom r.maps F.maps (poured ss ++ rs) (poured ss) r.masked F.masked
        ∙ ap₂ (λ (xs vs : List Y). values B r.maps xs vs r.masked)
        (map-append h (poured ss) rs ∙ ap (λ (ys : List Y). ys ++ map h rs) (map-poured h ss)) (map-poured h ss)

    -- the original's result in the values of its block
    pub result_in_hom : (vs : List X) → h (result_in A r vs) ≡ result_in B r (map h vs)
    unfolding result_in
    result_in_hom vs = value_at_hom vs r.result

    places_hom : (vs : List X) (ps : List ℕ) → map h (map (value_at A vs) ps) ≡ map (value_at B (map h vs)) ps
    places_hom vs [] = refl
    places_hom vs (p ∷ ps) = ap₂ {C = List Y} ◌∷◌ (value_at_hom vs p) (places_hom vs ps)

    -- the outputs in the values of the masked block
    pub outputs_in_hom : (vs : List X) → map h (outputs_in A r vs) ≡ outputs_in B r (map h vs)
    unfolding outputs_in
    outputs_in_hom vs = places_hom vs r.outputs

    -- the origin block, on the variables
    pub trace-origin : (xs : List X) → map h (trace A r xs).origin ≡ (trace B r (map h xs)).origin
    unfolding trace
    trace-origin xs =
        origin_values_hom (map (joined A) (lots r.shares r.inputs xs))
        ∙ ap (origin_values B r) (joins_hom (lots r.shares r.inputs xs)
        ∙ ap (map (joined B)) (map-lots h r.shares r.inputs xs))

    -- the masked block, on the variables
    pub trace-masked : (xs : List X) → map h (trace A r xs).masked ≡ (trace B r (map h xs)).masked
    unfolding trace
    trace-masked xs =
        masked_values_hom (lots r.shares r.inputs xs) (behind r.shares r.inputs xs)
        ∙ ap₂ (masked_values B r) (map-lots h r.shares r.inputs xs) (map-behind h r.shares r.inputs xs)

    -- THEOREM: the original's result, and the joined outputs
    pub result_hom : (xs : List X) → h (result_in A r (trace A r xs).origin)
        ≡ result_in B r (trace B r (map h xs)).origin
    result_hom xs = result_in_hom (trace A r xs).origin ∙ ap (result_in B r) (trace-origin xs)

    -- the joined outputs
    pub joined_in_hom : (xs : List X) → h (joined_in A r (trace A r xs)) ≡ joined_in B r (trace B r (map h xs))
    unfolding joined_in
    joined_in_hom xs =
        joined_hom (outputs_in A r (trace A r xs).masked)
        ∙ ap (joined B) (outputs_in_hom (trace A r xs).masked ∙ ap (outputs_in B r) (trace-masked xs))

    -- THEOREM: the difference
    pub difference_hom : (xs : List X) → h (difference_in A r (trace A r xs))
        ≡ B.add (result_in B r (trace B r (map h xs)).origin) (joined_in B r (trace B r (map h xs)))
    unfolding difference_in
    difference_hom xs =
        H.add (result_in A r (trace A r xs).origin) (joined_in A r (trace A r xs))
        ∙ ap₂ B.add (result_hom xs) (joined_in_hom xs)
