-- What every record keeps: names and statements go together, and each place that is read is given above.
-- Assumes nothing.
use mathlib.Core.Path.{◌≡◌, refl, sym, ap, ◌∙◌, subst}
use mathlib.Core.Logic.{◌⊎◌, inl, inr}
use Prim.Native.Nat.{ℕ, ◌+◌, ◌*◌, ◌≤◌, ◌<◌}
use native.Mathlib.Omega.{arith}
use native.Mathlib.Nat.{zero-mul}
use mathlib.Core.Bool.{Bool, true, false, cond}
use mathlib.Core.List.{List, [], ◌∷◌, map as map_list}
use lib.Dec.{eqb}
use lib.ListN.{length, length-append, length-map}
use borrow.Author.Tests.{eqb-true, eqb-false}
use Rattle.rules.specs.declared.types.Statement.{Statement}
use Rattle.tokens.specs.Ascii.{any}
use Rattle.tokens.specs.Token.{Name}
use Rattle.grammar.specs.Formula.{Formula}
use Rattle.grammar.specs.Record.{Form, assign, letting}
use Rattle.rules.specs.Order.{at_start, in_maps, in_inputs, in_origin, at_result, in_masked, at_end}
use Rattle.rules.specs.State.{Block, State, start}
use Rattle.rules.specs.Grown.{at_stage, with_shares, with_map, with_input}
use Rattle.rules.specs.Stated.{with_origin, with_masked, with_origin_all, with_masked_all}
use Rattle.rules.specs.Grown.{with_result, with_outputs}
use Rattle.rules.specs.Scope.{place_of, missing, drawn}
use Rattle.rules.specs.Faults.{block, reads_unknown}
use Rattle.rules.specs.Scope.{let_ops, share_names}
use Rattle.rules.specs.Added.{at_line, added}
use Rattle.rules.specs.Formed.{Each}
use Rattle.rules.specs.Ranged.{ReadsAbove}
use Rattle.tokens.proofs.Laws.Flags.{or_false}
use Rattle.rules.proofs.Laws.Reads.{length-shares, found-place, op-reads, above_more, above_append}
use Rattle.rules.proofs.Laws.Letting.{let_named, let_above}
use Rattle.rules.proofs.Laws.Stating.{longer, stated}

-- a block whose set holds `at` values before its statements: each statement has its name, and reads what is given above
pub record Standing (maps v at : ℕ) (b : Block) : Type 0 where
  pub named : length b.names ≡ at + length b.statements
  pub above : ReadsAbove maps v at b.statements

-- names and statements go together, each place that is read is given above, the origin block draws no variable, and
-- the stage says what is there
pub record Placed (s : State) : Type 0 where
  pub mapped : length s.map_names ≡ length s.maps
  pub origin : Standing (length s.maps) 0 s.inputs s.origin
  pub masked : Standing (length s.maps) s.variables (s.inputs * s.shares) s.masked
  pub none : s.stage ≡ at_start → s.inputs ≡ 0
  pub early : s.stage ≤ in_inputs → (s.origin.statements ≡ []) × (s.masked.statements ≡ [])
  pub resulted : at_result ≤ s.stage → s.result < s.inputs + length s.origin.statements
  pub listed : at_end ≤ s.stage → Each (λ p. p < s.inputs * s.shares + length s.masked.statements) s.outputs
  pub counted : at_end ≤ s.stage → length s.outputs ≡ s.shares

-- ---- one block

-- no statement
standing-none : (maps v at : ℕ) (b : Block) → b.statements ≡ [] → length b.names ≡ at → Standing maps v at b
standing-none maps v at b e h = record {
  named = omega (arith, ap length e);
  above = subst (ReadsAbove maps v at) (sym e) tt;
}

-- more variables
standing-more : (maps v w at : ℕ) (b : Block) → v ≤ w → Standing maps v at b → Standing maps w at b
standing-more maps v w at b l S = record {
  named = S.named;
  above = above_more maps v w at l b.statements S.above;
}

-- more statements, each with a name, which read what is given above them
standing-longer : (maps v at : ℕ) (b : Block) → Standing maps v at b → (ns : List Name) (sts : List Statement)
    → length ns ≡ length sts → ReadsAbove maps v (length b.names) sts → Standing maps v at (longer ns sts b)
standing-longer maps v at b S ns sts e h = record {
  named = omega (arith, S.named, length-append b.names ns, length-append b.statements sts);
  above = above_append maps v at b.statements sts S.above
      (subst (λ (i : ℕ). ReadsAbove maps v i sts) S.named h);
}

-- ---- above the blocks

-- nothing is read yet
pub start-placed : Placed start
unfolding start
start-placed = record {
  mapped = refl;
  origin = record { named = omega arith; above = tt };
  masked = record { named = omega arith; above = tt };
  none = λ e. refl;
  early = λ e. (refl, refl);
  resulted = λ l. omega arith;
  listed = λ l. tt;
  counted = λ l. refl;
}

-- no block has a statement yet
early-placed : (s : State) → at_start < s.stage → s.stage ≤ in_inputs → length s.map_names ≡ length s.maps
    → (s.origin.statements ≡ []) × (s.masked.statements ≡ [])
    → length s.origin.names ≡ s.inputs → length s.masked.names ≡ s.inputs * s.shares → Placed s
early-placed s some l mapped es o m = record {
  mapped = mapped;
  origin = standing-none (length s.maps) 0 s.inputs s.origin es.0 o;
  masked = standing-none (length s.maps) s.variables (s.inputs * s.shares) s.masked es.1 m;
  none = λ z. absurd (omega arith);
  early = λ z. es;
  resulted = λ z. absurd (omega arith);
  listed = λ z. absurd (omega arith);
  counted = λ z. absurd (omega arith);
}

module _ (s : State) (K : Placed s) (n : ℕ) where
  -- above the blocks each set holds the inputs alone
  inputs-named : s.stage ≤ in_inputs
      → (length s.origin.names ≡ s.inputs) × (length s.masked.names ≡ s.inputs * s.shares)
  inputs-named l =
      let es = K.early l in
      (omega (arith, K.origin.named, ap length es.0), omega (arith, K.masked.named, ap length es.1))

  -- `shares`
  pub shares-placed : (k : ℕ) → s.stage ≡ at_start → Placed (at_stage in_maps (with_shares k s))
  unfolding at_stage with_shares
  shares-placed k e =
      let none : (j : ℕ) → s.inputs * j ≡ 0 = λ j. ap (λ (i : ℕ). i * j) (K.none e) ∙ zero-mul j in
      let named = inputs-named (omega arith) in
      early-placed (at_stage in_maps (with_shares k s)) (omega arith) (omega arith) K.mapped (K.early (omega arith))
      named.0 (omega (arith, named.1, none k, none s.shares))

  -- a map
  pub map-placed : (x : Name) (c : ℕ) (l : List ℕ) → s.stage ≡ in_maps
      → Placed (at_stage in_maps (with_map x (record { constant = c; columns = l }) s))
  unfolding at_stage with_map
  map-placed x c l e =
      let named = inputs-named (omega arith) in
      early-placed _ (omega arith) (omega arith) (simp length-append (omega (arith, K.mapped)))
      (K.early (omega arith)) named.0 named.1

  -- an input
  pub input-placed : (x : Name) → s.stage ≤ in_inputs → Placed
      (at_stage in_inputs (with_input x (share_names x 0 s.shares) s))
  unfolding at_stage with_input
  input-placed x l =
      let named = inputs-named l in
      early-placed _ (omega arith) (omega arith) K.mapped (K.early l)
      (omega (arith, named.0, length-append s.origin.names (x ∷ [])))
      (omega (
        arith,
        named.1,
        length-append s.masked.names (share_names x 0 s.shares),
        length-shares x 0 s.shares,
      ))

  -- ---- behind the inputs

  -- another stage, result or outputs
  pub late-placed : (k p : ℕ) (os : List ℕ) → in_origin ≤ k
      → (at_result ≤ k → p < s.inputs + length s.origin.statements)
      → (at_end ≤ k → Each (λ i. i < s.inputs * s.shares + length s.masked.statements) os)
      → (at_end ≤ k → length os ≡ s.shares) → Placed (at_stage k (with_outputs os (with_result p s)))
  unfolding at_stage with_outputs with_result
  late-placed k p os l r o c = record {
    mapped = K.mapped;
    origin = K.origin;
    masked = K.masked;
    none = λ e. absurd (omega arith);
    early = λ e. absurd (omega arith);
    resulted = r;
    listed = o;
    counted = c;
  }

  -- `origin` and `masked`: another stage
  pub stage-placed : (k : ℕ) → in_origin ≤ k → k ≤ in_masked → (at_result ≤ k → at_result ≤ s.stage) → Placed (at_stage k s)
  unfolding at_stage with_outputs with_result
  stage-placed k l u h =
      late-placed k s.result s.outputs l (λ z. K.resulted (h z)) (λ z. absurd (omega arith))
      (λ z. absurd (omega arith))

  -- `result`
  pub result-placed : (x : Name) → s.stage ≡ in_origin → missing s.origin.names x ≡ false
      → Placed (at_stage at_result (with_result (place_of x s.origin.names) s))
  unfolding at_stage with_outputs with_result
  result-placed x e h =
      late-placed at_result (place_of x s.origin.names) s.outputs (omega arith)
      (λ z. omega (arith, K.origin.named, found-place s.origin.names x h)) (λ z. absurd (omega arith))
      (λ z. absurd (omega arith))

  places-listed : (m : ℕ) (ms : List Name) → length ms ≡ m → (xs : List Name) → any (missing ms) xs ≡ false
      → Each (λ p. p < m) (map_list (λ x. place_of x ms) xs)
  unfolding any
  places-listed m ms e [] h = tt
  places-listed m ms e (x ∷ xs) h =
      let k = or_false (missing ms x) (any (missing ms) xs) h in
      (omega (arith, found-place ms x k.0), places-listed m ms e xs k.1)

  -- `output`
  pub output-placed : (xs : List Name) → s.stage ≡ in_masked → any (missing s.masked.names) xs ≡ false
      → length xs ≡ s.shares → Placed (at_stage at_end (with_outputs (map_list (λ x. place_of x s.masked.names) xs) s))
  unfolding at_stage with_outputs with_result
  output-placed xs e h k =
      let ms : List Name = s.masked.names in
      late-placed at_end s.result (map_list (λ x. place_of x ms) xs) (omega arith) (λ z. K.resulted (omega arith))
      (λ z. places-listed (s.inputs * s.shares + length s.masked.statements) ms K.masked.named xs h)
      (λ z. length-map xs (λ x. place_of x ms) ∙ k)

  -- ---- statements

  -- more statements, each with a name, which read what is given above them; those of the origin block draw no variable
  stated-placed : (b : Bool) (ns : List Name) (sts : List Statement) (v : ℕ) → s.stage ≡ cond b in_masked in_origin
      → s.variables ≤ v → length ns ≡ length sts
      → ReadsAbove (length s.map_names) (cond b v 0) (length (cond b s.masked s.origin).names) sts
      → Placed (at_stage s.stage (stated b ns sts v s))
  unfolding at_stage
  stated-placed true ns sts v e l c h =
      let m : ℕ = length s.maps in
      let more = standing-more m s.variables v (s.inputs * s.shares) s.masked l K.masked in
      record {
        mapped = K.mapped;
        origin = K.origin;
        masked = standing-longer m v (s.inputs * s.shares) s.masked more ns sts c
            (subst (λ (i : ℕ). ReadsAbove i v (length s.masked.names) sts) K.mapped h);
        none = λ z. let y : s.stage ≡ at_start = z in absurd (omega arith);
        early = λ z. let y : s.stage ≤ in_inputs = z in absurd (omega arith);
        resulted = λ z. K.resulted z;
        listed = λ z. let y : at_end ≤ s.stage = z in absurd (omega arith);
        counted = λ z. let y : at_end ≤ s.stage = z in absurd (omega arith);
      }
  stated-placed false ns sts v e l c h = record {
    mapped = K.mapped;
    origin = standing-longer (length s.maps) 0 s.inputs s.origin K.origin ns sts c
        (subst (λ (i : ℕ). ReadsAbove i 0 (length s.origin.names) sts) K.mapped h);
    masked = K.masked;
    none = λ z. let y : s.stage ≡ at_start = z in absurd (omega arith);
    early = λ z. let y : s.stage ≤ in_inputs = z in absurd (omega arith);
    resulted = λ z. let y : at_result ≤ s.stage = z in absurd (omega arith);
    listed = λ z. let y : at_end ≤ s.stage = z in absurd (omega arith);
    counted = λ z. let y : at_end ≤ s.stage = z in absurd (omega arith);
  }

  -- a statement that does not stand in the masked block stands in the origin block
  in_origin_lem : (s.stage ≡ in_origin) ⊎ (s.stage ≡ in_masked) → eqb s.stage in_masked ≡ false → s.stage ≡ in_origin
  in_origin_lem (inl e) k = e
  in_origin_lem (inr e) k = absurd (eqb-false s.stage in_masked k e)

  -- the stage of the block that a statement stands in
  stage_is : (s.stage ≡ in_origin) ⊎ (s.stage ≡ in_masked) → s.stage ≡ cond (eqb s.stage in_masked) in_masked in_origin
  stage_is w = go (eqb s.stage in_masked) refl
    where
      go : (b : Bool) → eqb s.stage in_masked ≡ b → s.stage ≡ cond b in_masked in_origin
      go true t = eqb-true s.stage in_masked t
      go false t = in_origin_lem w t

  -- a statement, wherever it stands
  pub assign-placed : (x : Name) (f : Form) → (s.stage ≡ in_origin) ⊎ (s.stage ≡ in_masked)
      → (s.stage ≡ in_origin → drawn f ≡ 0)
      → reads_unknown s (assign x f) ≡ false → Placed (at_stage s.stage (added n (assign x f) s))
  unfolding added reads_unknown block with_masked with_origin
  assign-placed x f w d h =
      let b = eqb s.stage in_masked in
      let v : ℕ = s.variables + drawn f in
      stated-placed b (x ∷ []) _ v (stage_is w) (omega arith) refl
      (op-reads (block s).names s.map_names s.variables (cond b v 0) f h (draws b refl), tt)
    where
      draws : (b : Bool) → eqb s.stage in_masked ≡ b → 0 < drawn f
          → s.variables < cond b (s.variables + drawn f) 0
      draws true t l = omega arith
      draws false t l = absurd (omega (arith, d (in_origin_lem w t)))

  -- a `let`, wherever it stands
  pub let_placed : (x : Name) (f : Formula) → (s.stage ≡ in_origin) ⊎ (s.stage ≡ in_masked)
      → reads_unknown s (letting x f) ≡ false → Placed (at_stage s.stage (added n (letting x f) s))
  unfolding added reads_unknown block with_masked_all with_origin_all
  let_placed x f w h =
      let b = eqb s.stage in_masked in
      let ms : List Name = (block s).names in
      stated-placed b _ (at_line n (let_ops ms s.map_names (length ms) f)) s.variables
      (stage_is w) (omega arith) (let_named x ms s.map_names (length ms) n f)
      (let_above ms s.map_names (cond b s.variables 0) n (length ms) f (omega arith) h)
