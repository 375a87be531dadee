-- A formula of a field, looked up: there is room for its operations, and an operand alone is written as a `set`.
-- Assumes nothing.
use Rattle.rules.specs.declared.types.Op.{Op}
use Prim.Native.Nat.{ℕ, max, ◌+◌, ◌≤◌}
use native.Mathlib.Omega.{arith}
use mathlib.Core.Path.{◌≡◌, refl, sym, ◌∙◌, ap, subst}
use mathlib.Core.Bool.{Bool, true, false, cond}
use mathlib.Core.List.{List}
use Rattle.std.specs.Prelude.{Option, None as none, Some as some}
use lib.Dec.{eqb}
use lib.ListN.{length, take, drop, set}
use lib.Seq.{length-take-le}
use lib.ListN.{length-drop}
use Rattle.tokens.specs.Token.{◌>>=◌, provided, Name}
use Rattle.grammar.specs.Formula.{Formula, Parsed, operand, xor, mul, app, operations, parsed, whole}
use Rattle.grammar.specs.Formula.{read_formula}
use Rattle.grammar.specs.declared.line.NameRef.{NameRef}
use Rattle.rules.specs.declared.types.Op.TheVariants.{Set}
use Rattle.lines.specs.declared.step.Put.TheVariants.{Let}
use Rattle.lookup.specs.declared.compile.Compiled.{Compiled}
use Rattle.rules.specs.Limits.{most_statements}
use Rattle.rules.specs.Scope.{value_of, let_count, let_ops, compiled}
use Rattle.lookup.specs.Coded.{written}
use Rattle.lookup.specs.Compiled.{CompileIs, Compiles, Room}
use Rattle.lines.specs.declared.known.Known.{Known}
use Rattle.lookup.specs.declared.names.Names.{Names}
use Rattle.lines.specs.declared.step.Letting.{Letting}
use Rattle.rules.specs.Limits.{most_names, origin_from, masked_from}
use Rattle.rules.specs.Order.{in_masked}
use Rattle.lookup.specs.Names.{names_in}
use Rattle.lookup.specs.declared.compile.Lookup.{Lookup}
use Rattle.lookup.specs.Compiled.{Looks}
use Rattle.lines.specs.Stage.{stage_of}
use Rattle.lines.specs.Known.{Sound, block_names, map_names, masked_names, origin_names}
use Rattle.lines.specs.Stored.{LetsHeld}
use Rattle.lines.specs.Lets.{field_of, statements_of, LetRoom, LetIs}
use Rattle.lines.specs.Added.{StatementsFit}
use Rattle.lines.specs.Lets.{LetWritten, Shallow}
use Rattle.lines.specs.Given.{given_from}
use Rattle.lookup.proofs.Laws.Named.{listed-length}
use Rattle.lookup.proofs.Laws.Decoding.{written-length}
use Rattle.rules.proofs.Laws.Letting.{shallow-few, stated-length, let_length}
use Rattle.lines.proofs.Laws.LetDecoding.{let_back}

-- ---- how many statements there are

-- one for each operation, and one for an operand alone
pub counted_is : (e : Formula) → max (operations e) 1 ≡ let_count e
unfolding operations let_count
counted_is (operand a) = refl
counted_is (xor a b) = omega arith
counted_is (mul a b) = omega arith
counted_is (app f a) = omega arith

-- ---- a formula with nothing behind it

whole_room : (b : Bool) (e : Formula) → LetRoom (provided b e) → operations e ≤ most_statements
whole_room true e h = h
whole_room false e h = absurd h

parsed-room : (o : Option Parsed) → LetRoom (o >>= whole) → Room 0 o
unfolding whole
parsed-room none h = h
parsed-room (some p) h =
    let r = whole_room (eqb (length p.1) 0) p.0 h in omega (arith, r)

-- there is room for what is read in a field
pub field_room : (f : List ℕ) → LetRoom (read_formula f) → Room 0 (parsed f)
unfolding read_formula
field_room f h = parsed-room (parsed f) h

module _ (ms maps : List Name) (base : ℕ) (b : base ≡ length ms) (f : List ℕ) (entry mid exit : List Op)
    (r : Compiled) where
  at_base : base + 0 ≡ length ms
  at_base = omega (arith, b)

  module _ (u : List ℕ) where
    -- an operand alone
    alone : (e : Formula) → CompileIs ms maps base 0 0 f entry mid r e u → r.done ≡ 0
        → exit ≡ set mid 0 (Set r.operand) → LetIs ms maps entry exit r.unknown e
    unfolding written let_ops compiled value_of operations
    alone (operand a) C z q =
        record {
          unknown = C.unknown;
          codes = q ∙ (λ i. set (C.codes i) 0 (Set (C.operand i)));
        }
    alone (xor a c) C z q = let d = C.done in absurd (omega (arith, z, d))
    alone (mul a c) C z q = let d = C.done in absurd (omega (arith, z, d))
    alone (app g a) C z q = let d = C.done in absurd (omega (arith, z, d))

    -- one operation at least
    several : (e : Formula) → CompileIs ms maps base 0 0 f entry mid r e u → (r.done ≡ 0 → ⊥)
        → exit ≡ mid → LetIs ms maps entry exit r.unknown e
    unfolding let_ops operations
    several (operand a) C z q = absurd (z C.done)
    several (xor a c) C z q =
        record {
          unknown = C.unknown;
          codes = q ∙ C.codes ∙ ap (λ (i : ℕ). written entry 0 (compiled ms maps i (xor a c))) at_base;
        }
    several (mul a c) C z q =
        record {
          unknown = C.unknown;
          codes = q ∙ C.codes ∙ ap (λ (i : ℕ). written entry 0 (compiled ms maps i (mul a c))) at_base;
        }
    several (app g a) C z q =
        record {
          unknown = C.unknown;
          codes = q ∙ C.codes ∙ ap (λ (i : ℕ). written entry 0 (compiled ms maps i (app g a))) at_base;
        }

  whole_is : (c : Bool) (e : Formula) → LetIs ms maps entry exit r.unknown e
      → LetWritten ms maps entry exit r.unknown (provided c e)
  whole_is true e h = h
  whole_is false e h = tt

  parsed-is : (o : Option Parsed) → Compiles ms maps base 0 0 f entry mid r o
      → ((e : Formula) (u : List ℕ) → CompileIs ms maps base 0 0 f entry mid r e u
      → LetIs ms maps entry exit r.unknown e)
      → LetWritten ms maps entry exit r.unknown (o >>= whole)
  unfolding whole
  parsed-is none C h = tt
  parsed-is (some p) C h = whole_is (eqb (length p.1) 0) p.0 (h p.0 p.1 C)

  -- the formula of the field is an operand alone
  pub written-alone : Compiles ms maps base 0 0 f entry mid r (parsed f) → r.done ≡ 0
      → exit ≡ set mid 0 (Set r.operand) → LetWritten ms maps entry exit r.unknown (read_formula f)
  unfolding read_formula
  written-alone C z q = parsed-is (parsed f) C (λ e u D. alone u e D z q)

  -- the formula of the field has operations
  pub written-several : Compiles ms maps base 0 0 f entry mid r (parsed f) → (r.done ≡ 0 → ⊥) → exit ≡ mid
      → LetWritten ms maps entry exit r.unknown (read_formula f)
  unfolding read_formula
  written-several C z q = parsed-is (parsed f) C (λ e u D. several u e D z q)

-- ---- as the code has it

names-count : (s : List ℕ) (t : List NameRef) (n : Names) → n.count ≡ length (names_in s t n)
unfolding names_in
names-count s t n = sym (listed-length s t n.from n.count)

block-few : (s : List ℕ) (t : List NameRef) (k : Known) → Sound k → (b : Bool)
    → length (cond b (masked_names s t k) (origin_names s t k)) ≤ most_names
block-few s t k K true = omega (arith, listed-length s t masked_from k.parts, K.parts, K.variables, K.statements)
block-few s t k K false = omega (arith, listed-length s t origin_from k.wholes, K.wholes, K.inputs, K.statements)

let_few : (e : Formula) → let_count e ≤ operations e + 1
unfolding operations let_count
let_few (operand a) = omega arith
let_few (xor a b) = omega arith
let_few (mul a b) = omega arith
let_few (app f a) = omega arith

-- it counts as few statements
pub shallow-count : (s : List ℕ) (f : Letting) → Shallow s f → f.count ≤ most_statements
shallow-count s f S = omega (arith, S.count, let_few S.formula, shallow-few S.formula S.shallow)

-- there is room for a formula that does not nest too deep
pub shallow_fits : (s : List ℕ) (f : Letting) → Shallow s f → LetRoom (read_formula (field_of s f))
shallow_fits s f S = subst LetRoom (sym S.read) (omega (arith, shallow-few S.formula S.shallow))

-- the field is in its place, and the values have places
pub let_looks : (w : Lookup) (t : List NameRef) (k : Known) (f : Letting) (n : Names)
    → names_in w.set.text.now t n ≡ block_names w.set.text.now t k → w.field.now ≡ field_of w.set.text.now f
    → w.from ≡ f.at → w.base ≡ n.count → Sound k → f.at + f.len ≤ length w.set.text.now → Looks w
let_looks w t k f n e q a b K h =
    let s = w.set.text.now in
    let size : length w.field.now ≡ f.len = ap (λ (l : List ℕ). length l) q
    ∙ length-take-le f.len (drop f.at s) (omega (arith, length-drop f.at s)) in
    let few = block-few s t k K (eqb (stage_of k.stage) in_masked) in
    let all = names-count s t n ∙ ap (λ (ms : List Name). length ms) e in
    record {
      based = omega (arith, few, all, b);
      field = q ∙ (λ i. take (sym size i) (drop (sym a i) s));
      inside = omega (arith, size, h, a);
    }

module _ (s : List ℕ) (t : List NameRef) (k : Known) (f : Letting) (n : Names)
    (e : names_in s t n ≡ block_names s t k) (p : List ℕ) (q : p ≡ field_of s f) where
  -- there is room for the operations
  pub let_room : LetRoom (read_formula (field_of s f)) → Room 0 (parsed p)
  let_room h = field_room p (subst (λ (l : List ℕ). LetRoom (read_formula l)) (sym q) h)

  module _ (entry mid exit : List Op) (r : Compiled)
      (C : Compiles (names_in s t n) (map_names s t k) n.count 0 0 p entry mid r (parsed p)) where
    told : LetWritten (names_in s t n) (map_names s t k) entry exit r.unknown (read_formula p)
        → LetWritten (block_names s t k) (map_names s t k) entry exit r.unknown
        (read_formula (field_of s f))
    told h =
        subst (λ (l : List ℕ). LetWritten (block_names s t k) (map_names s t k) entry exit
        r.unknown (read_formula l)) q
        (subst (λ (ms : List Name). LetWritten ms (map_names s t k) entry exit r.unknown (read_formula p)) e h)

    -- an operand alone is written as a `set`
    pub let_alone_lem : r.done ≡ 0 → exit ≡ set mid 0 (Set r.operand)
        → LetWritten (block_names s t k) (map_names s t k) entry exit r.unknown
        (read_formula (field_of s f))
    let_alone_lem z x =
        told (written-alone (names_in s t n) (map_names s t k) n.count (names-count s t n) p entry mid
        exit r C z x)

    -- the operations are those of the `let`
    pub let_several : (r.done ≡ 0 → ⊥) → exit ≡ mid
        → LetWritten (block_names s t k) (map_names s t k) entry exit r.unknown
        (read_formula (field_of s f))
    let_several z x =
        told (written-several (names_in s t n) (map_names s t k) n.count (names-count s t n) p entry mid
        exit r C z x)

let_size : (ms maps : List Name) (entry exit : List Op) (u : Bool) (e : Formula) → LetIs ms maps entry exit u e
    → length exit ≡ length entry
let_size ms maps entry exit u e L =
    ap (λ (c : List Op). length c) L.codes ∙ written-length entry 0 (let_ops ms maps (length ms) e)

-- the array keeps its size
pub written-size : (ms maps : List Name) (entry exit : List Op) (u : Bool) (o : Option Formula) → LetRoom o
    → LetWritten ms maps entry exit u o → length exit ≡ length entry
written-size ms maps entry exit u none h W = absurd h
written-size ms maps entry exit u (some e) h W = let_size ms maps entry exit u e W

-- the statements of a `let`, read back from where they were written
pub let_stored : (s : List ℕ) (t : List NameRef) (k : Known) (x : NameRef) (f : Letting) → StatementsFit k f.count
    → (S : Shallow s f) → (entry exit : List Op) (u : Bool)
    → LetIs (block_names s t k) (map_names s t k) entry exit u S.formula
    → LetsHeld s t exit k (Let x f)
let_stored s t k x f F S entry exit u L size =
    let ms = block_names s t k in
    let maps = map_names s t k in
    let os = let_ops ms maps (length ms) S.formula in
    let many = S.count ∙ sym (let_length ms maps (length ms) f.line S.formula) ∙ stated-length f.line os in
    let room : f.count ≤ length entry = omega (arith, size, let_size ms maps entry exit u S.formula L, F.1) in
    ap (λ (c : List Op). given_from c (Let x f) 0 f.count) L.codes
    ∙ let_back x f os entry f.count many room
    ∙ ap (statements_of f.line ms maps) (sym S.read)
