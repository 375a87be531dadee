-- What is known with more names and statements in one of the blocks, which is what statements add.
-- Assumes nothing.
use Prim.Native.Nat.{ℕ, ◌+◌, ◌-◌}
use native.Mathlib.Omega.{arith}
use mathlib.Core.Path.{◌≡◌, refl, sym}
use mathlib.Core.Bool.{Bool, true, false}
use mathlib.Core.List.{List, [], ◌∷◌, ◌++◌, append-nil, append_assoc, map as map_list}
use lib.Dec.{eqb}
use lib.ListN.{length, replicate, length-append}
use Rattle.tokens.specs.Token.{Name}
use Rattle.grammar.specs.Formula.{Formula}
use Rattle.grammar.specs.Record.{Form, assign, letting}
use Rattle.rules.specs.declared.types.Op.{Op}
use Rattle.rules.specs.declared.types.Statement.{Statement}
use Rattle.rules.specs.Order.{in_masked}
use Rattle.rules.specs.State.{State}
use Rattle.rules.specs.Stated.{with_origin, with_masked, with_origin_all, with_masked_all, unnamed}
use Rattle.rules.specs.Scope.{drawn, op_in, let_ops}
use Rattle.rules.specs.Faults.{block, statement_count}
use Rattle.rules.specs.Added.{added}

-- what is known, with other blocks
unfoldable pub resting : State → List Name → List Statement → List Name → List Statement → State
resting s on os mn ms =
    record {
      stage = s.stage;
      shares = s.shares;
      map_names = s.map_names;
      maps = s.maps;
      inputs = s.inputs;
      variables = s.variables;
      origin = record { names = on; statements = os };
      masked = record { names = mn; statements = ms };
      result = s.result;
      outputs = s.outputs;
    }

-- the names of the masked block (true), or of the origin block
unfoldable pub names_of : Bool → State → List Name
names_of true s = s.masked.names
names_of false s = s.origin.names

-- what is known, with more names and statements in that block
unfoldable pub grown : Bool → State → List Name → List Statement → State
grown true s ns sts =
    resting s s.origin.names s.origin.statements (s.masked.names ++ ns) (s.masked.statements ++ sts)
grown false s ns sts =
    resting s (s.origin.names ++ ns) (s.origin.statements ++ sts) s.masked.names s.masked.statements

-- what statements compute, without their lines
abbrev pub ops_of : List Statement → List Op
ops_of ss = map_list (λ s. s.op) ss

-- ---- what is the same

-- all but the blocks
pub grown-same : (b : Bool) (s : State) (ns : List Name) (sts : List Statement)
    → ((grown b s ns sts).stage ≡ s.stage) × ((grown b s ns sts).variables ≡ s.variables)
    × ((grown b s ns sts).map_names ≡ s.map_names)
unfolding grown resting
grown-same true s ns sts = (refl, refl, refl)
grown-same false s ns sts = (refl, refl, refl)

-- the names of both blocks, and more
pub grown-names : (b c : Bool) (s : State) (ns : List Name) (sts : List Statement)
    → (more : List Name) × (names_of c (grown b s ns sts) ≡ names_of c s ++ more)
unfolding grown resting names_of
grown-names true true s ns sts = (ns, refl)
grown-names true false s ns sts = ([], sym (append-nil s.origin.names))
grown-names false true s ns sts = ([], sym (append-nil s.masked.names))
grown-names false false s ns sts = (ns, refl)

-- the names of the block that grows
pub grown-own : (b : Bool) (s : State) (ns : List Name) (sts : List Statement)
    → names_of b (grown b s ns sts) ≡ names_of b s ++ ns
unfolding grown resting names_of
grown-own true s ns sts = refl
grown-own false s ns sts = refl

-- the statements of both blocks
pub grown-count : (b : Bool) (s : State) (ns : List Name) (sts : List Statement)
    → statement_count (grown b s ns sts) ≡ statement_count s + length sts
unfolding grown resting statement_count
grown-count true s ns sts = omega (arith, length-append s.masked.statements sts)
grown-count false s ns sts = omega (arith, length-append s.origin.statements sts)

-- nothing more
pub grown-none : (b : Bool) (s : State) → grown b s [] [] ≡ s
unfolding grown resting
grown-none true s =
    λ i. resting s s.origin.names s.origin.statements (append-nil s.masked.names i)
    (append-nil s.masked.statements i)
grown-none false s =
    λ i. resting s (append-nil s.origin.names i) (append-nil s.origin.statements i) s.masked.names
    s.masked.statements

-- more, and more again
pub grown-more : (b : Bool) (s : State) (ns ks : List Name) (sts ss : List Statement)
    → grown b (grown b s ns sts) ks ss ≡ grown b s (ns ++ ks) (sts ++ ss)
unfolding grown resting
grown-more true s ns ks sts ss =
    λ i. resting s s.origin.names s.origin.statements (append_assoc s.masked.names ns ks i)
    (append_assoc s.masked.statements sts ss i)
grown-more false s ns ks sts ss =
    λ i. resting s (append_assoc s.origin.names ns ks i) (append_assoc s.origin.statements sts ss i)
    s.masked.names s.masked.statements

-- ---- the block that a statement stands in

-- its names
pub block_names_lem : (b : Bool) (s : State) → eqb s.stage in_masked ≡ b → (block s).names ≡ names_of b s
unfolding block names_of
block_names_lem true s e = rw e
block_names_lem false s e = rw e

-- what is known, with k more variables where the block is the masked one
unfoldable pub drawing : Bool → ℕ → State → State
drawing true k s =
    record {
      stage = s.stage;
      shares = s.shares;
      map_names = s.map_names;
      maps = s.maps;
      inputs = s.inputs;
      variables = s.variables + k;
      origin = s.origin;
      masked = s.masked;
      result = s.result;
      outputs = s.outputs;
    }
drawing false k s = s

-- no variable more
pub drawing-none : (b : Bool) (k : ℕ) (s : State) → k ≡ 0 → drawing b k s ≡ s
unfolding drawing
drawing-none true k s e =
    let same : s.variables + k ≡ s.variables = omega arith in
    λ i. record {
      stage = s.stage;
      shares = s.shares;
      map_names = s.map_names;
      maps = s.maps;
      inputs = s.inputs;
      variables = same i;
      origin = s.origin;
      masked = s.masked;
      result = s.result;
      outputs = s.outputs;
    }
drawing-none false k s e = refl

-- the statement that line n adds to a block
abbrev pub statement_at : Bool → State → ℕ → Form → Statement
statement_at b s n f = record { op = op_in (names_of b s) s.map_names s.variables f; line = n }

-- THEOREM: a statement adds its name and itself to its block
pub assign-adds : (b : Bool) (s : State) (n : ℕ) (x : Name) (f : Form) → eqb s.stage in_masked ≡ b
    → added n (assign x f) s ≡ grown b (drawing b (drawn f) s) (x ∷ []) (statement_at b s n f ∷ [])
unfolding added block names_of grown resting drawing with_masked with_origin
assign-adds true s n x f e = rw e
assign-adds false s n x f e = rw e

-- the statements that a `let` on line n adds to a block
abbrev pub statements_at : Bool → State → ℕ → Formula → List Statement
statements_at b s n f =
    map_list (λ op. record { op = op; line = n }) (let_ops (names_of b s) s.map_names (length (names_of b s)) f)

-- THEOREM: a `let` adds its statements to its block, and its name for the last
pub let_adds : (b : Bool) (s : State) (n : ℕ) (x : Name) (f : Formula) → eqb s.stage in_masked ≡ b
    → (let sts = statements_at b s n f in
    added n (letting x f) s ≡ grown b s (replicate (length sts - 1) unnamed ++ x ∷ []) sts)
unfolding added block names_of grown resting with_masked_all with_origin_all
let_adds true s n x f e = rw e
let_adds false s n x f e = rw e
