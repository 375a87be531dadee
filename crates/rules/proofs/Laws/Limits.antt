-- THEOREM: the routine of every accepted text is within the limits.
-- Assumes nothing.
use mathlib.Core.Path.{◌≡◌, refl, sym, subst}
use Prim.Native.Nat.{ℕ, ◌+◌, ◌≤◌}
use native.Mathlib.Omega.{arith}
use mathlib.Core.Bool.{Bool, true, false}
use mathlib.Core.List.{List, [], ◌∷◌}
use lib.Dec.{ltb, eqb}
use lib.ListN.{length, length-append}
use borrow.Author.Tests.{ltb-false}
use Rattle.tokens.specs.declared.word.Word.{Word}
use Rattle.tokens.specs.declared.word.Word.TheVariants.{Map, Input, Origin, Set, Xor, Mul, App, Let, Rand}
use Rattle.tokens.specs.declared.word.Word.TheVariants.{Result, Masked, Output}
use Rattle.rules.specs.declared.types.Statement.{Statement}
use Rattle.tokens.specs.Token.{Name}
use Rattle.grammar.specs.Formula.{Formula}
use Rattle.grammar.specs.Record.{Form, set, xor, mul, app, rand, Record, assign, letting}
use Rattle.rules.specs.Order.{at_start, in_masked, may_stand, stage_after}
use Rattle.rules.specs.State.{Block, State, start}
use Rattle.rules.specs.Grown.{at_stage, with_shares, with_map, with_input}
use Rattle.rules.specs.Stated.{origin_as, masked_as, with_origin, with_masked, with_origin_all, with_masked_all}
use Rattle.rules.specs.Grown.{with_result, with_outputs}
use Rattle.rules.specs.Scope.{drawn}
use Rattle.rules.specs.Faults.{statement_count, exceeds}
use Rattle.rules.specs.Limits.{most_maps, most_inputs, most_variables, most_statements}
use Rattle.rules.specs.Scope.{let_count, let_ops, share_names}
use Rattle.rules.specs.Added.{at_line}
use Rattle.rules.specs.Faults.{block}
use Rattle.rules.specs.Added.{added}
use Rattle.rules.specs.Read.{routine, read_text}
use Rattle.rules.specs.Ranged.{Limited}
use Rattle.grammar.proofs.Laws.Fits.{Fits, fit_shares, fit_map, fit_input, fit_origin, fit_set, fit_xor, fit_mul}
use Rattle.grammar.proofs.Laws.Fits.{fit_app, fit_let, fit_rand, fit_result, fit_masked, fit_output}
use Rattle.tokens.proofs.Laws.Flags.{true-false, or_false}
use Rattle.rules.proofs.Laws.Letting.{let_length, let_named}
use Rattle.rules.proofs.Laws.Stating.{longer, stated}
use Rattle.rules.proofs.Laws.Reads.{length-shares}
use Rattle.rules.proofs.Laws.Keeping.{Passed, Accepts, read_keeps}

-- the limits hold of what is known, and a set has no more names than its values are counted
pub record Bounded (s : State) : Type 0 where
  pub begun : (s.stage ≡ at_start → ⊥) → 1 ≤ s.shares
  pub shares : s.shares ≤ 8
  pub maps : length s.maps ≤ most_maps
  pub inputs : s.inputs ≤ most_inputs
  pub variables : s.variables ≤ most_variables
  pub statements : length s.origin.statements + length s.masked.statements ≤ most_statements
  pub origin : length s.origin.names ≤ s.inputs + length s.origin.statements
  pub masked : length s.masked.names ≤ s.variables + length s.masked.statements

-- before the first line
pub start-bounded : Bounded start
unfolding start
start-bounded = record {
  begun = λ h. absurd (h refl);
  shares = omega arith;
  maps = omega arith;
  inputs = omega arith;
  variables = omega arith;
  statements = omega arith;
  origin = omega arith;
  masked = omega arith;
}

-- a word other than `shares` stands behind the start
behind : (s : State) (w : Word) → may_stand w at_start ≡ false → may_stand w s.stage ≡ true → s.stage ≡ at_start → ⊥
behind s w z m e = true-false (sym (subst (λ (b : Bool). b ≡ true) z (subst (λ (k : ℕ). may_stand w k ≡ true) e m)))

module _ (s : State) (K : Bounded s) (n k : ℕ) (b : s.stage ≡ at_start → ⊥) where
  -- other blocks within the limits, and v variables in all
  blocks_bounded : (v p : ℕ) (os : List ℕ) (o m : Block) → v ≤ most_variables
      → length o.statements + length m.statements ≤ most_statements
      → length o.names ≤ s.inputs + length o.statements → length m.names ≤ v + length m.statements
      → Bounded (at_stage k (with_outputs os (with_result p (masked_as m v (origin_as o s)))))
  unfolding at_stage with_outputs with_result
  blocks_bounded v p os o m u c x y = record {
    begun = λ h. K.begun b;
    shares = K.shares;
    maps = K.maps;
    inputs = K.inputs;
    variables = u;
    statements = c;
    origin = x;
    masked = y;
  }

  -- nothing that is bounded is new
  same-bounded : (p : ℕ) (os : List ℕ) → Bounded (at_stage k (with_outputs os (with_result p s)))
  unfolding at_stage with_outputs with_result
  same-bounded p os =
      blocks_bounded s.variables p os s.origin s.masked K.variables K.statements K.origin K.masked

  -- more statements within the limits, each with a name
  stated-bounded : (t : Bool) (ns : List Name) (sts : List Statement) (v : ℕ) → s.variables ≤ v → v ≤ most_variables
      → length ns ≡ length sts → statement_count s + length sts ≤ most_statements
      → Bounded (at_stage k (stated t ns sts v s))
  unfolding at_stage with_outputs with_result statement_count
  stated-bounded true ns sts v l u e m =
      let count = length-append s.masked.statements sts in
      blocks_bounded v s.result s.outputs s.origin (longer ns sts s.masked) u (omega (arith, m, count))
      K.origin (omega (arith, K.masked, count, length-append s.masked.names ns))
  stated-bounded false ns sts v l u e m =
      let count = length-append s.origin.statements sts in
      blocks_bounded s.variables s.result s.outputs (longer ns sts s.origin) s.masked K.variables
      (omega (arith, m, count)) (omega (arith, K.origin, count, length-append s.origin.names ns)) K.masked

  assign-bounded : (x : Name) (f : Form) → exceeds s (assign x f) ≡ false → Bounded (at_stage k (added n (assign x f) s))
  unfolding added exceeds with_masked with_origin
  assign-bounded x f e =
      let within =
      or_false (ltb most_statements (statement_count s + 1)) (ltb most_variables (s.variables + drawn f)) e in
      stated-bounded (eqb s.stage in_masked) (x ∷ []) _ (s.variables + drawn f) (omega arith)
      (ltb-false most_variables (s.variables + drawn f) within.1) refl
      (ltb-false most_statements (statement_count s + 1) within.0)

  let_bounded : (x : Name) (f : Formula) → exceeds s (letting x f) ≡ false
      → Bounded (at_stage k (added n (letting x f) s))
  unfolding added exceeds with_masked_all with_origin_all
  let_bounded x f e =
      let ms : List Name = (block s).names in
      stated-bounded (eqb s.stage in_masked) _ (at_line n (let_ops ms s.map_names (length ms) f)) s.variables
      (omega arith) K.variables (let_named x ms s.map_names (length ms) n f)
      (omega (
        arith,
        ltb-false most_statements (statement_count s + let_count f) e,
        let_length ms s.map_names (length ms) n f,
      ))

-- a record that no refusal stops keeps the limits
pub added-bounded : (s : State) → Bounded s → (n : ℕ) {w : Word} {r : Record} → Fits w r → Passed s w r
    → Bounded (at_stage (stage_after w s.stage) (added n r s))
unfolding at_stage added exceeds with_shares with_map with_input with_result with_outputs
added-bounded s K n (fit_shares low high) p = record {
  begun = λ h. low;
  shares = high;
  maps = K.maps;
  inputs = K.inputs;
  variables = K.variables;
  statements = K.statements;
  origin = K.origin;
  masked = K.masked;
}
added-bounded s K n (fit_map {c = c} {l = l} h e hl) p =
    let room = ltb-false most_maps (length s.maps + 1) p.within in
    record {
      begun = λ h. K.begun (behind s Map refl p.stands);
      shares = K.shares;
      maps = omega (arith, room, length-append s.maps (record { constant = c; columns = l } ∷ []));
      inputs = K.inputs;
      variables = K.variables;
      statements = K.statements;
      origin = K.origin;
      masked = K.masked;
    }
added-bounded s K n (fit_input {n = x}) p =
    let e = or_false (ltb most_inputs (s.inputs + 1)) (ltb most_variables (s.variables + s.shares)) p.within in
    record {
      begun = λ h. K.begun (behind s Input refl p.stands);
      shares = K.shares;
      maps = K.maps;
      inputs = ltb-false most_inputs (s.inputs + 1) e.0;
      variables = ltb-false most_variables (s.variables + s.shares) e.1;
      statements = K.statements;
      origin = omega (arith, K.origin, length-append s.origin.names (x ∷ []));
      masked = omega (
        arith,
        K.masked,
        length-append s.masked.names (share_names x 0 s.shares),
        length-shares x 0 s.shares,
      );
    }
added-bounded s K n fit_origin p =
    same-bounded s K n (stage_after Origin s.stage) (behind s Origin refl p.stands) s.result s.outputs
added-bounded s K n (fit_set {n = x} {a = a} h) p =
    assign-bounded s K n s.stage (behind s Set refl p.stands) x (set a) p.within
added-bounded s K n (fit_xor {n = x} {a = a} {b = b} h k) p =
    assign-bounded s K n s.stage (behind s Xor refl p.stands) x (xor a b) p.within
added-bounded s K n (fit_mul {n = x} {a = a} {b = b} h k) p =
    assign-bounded s K n s.stage (behind s Mul refl p.stands) x (mul a b) p.within
added-bounded s K n (fit_app {n = x} {f = f} {a = a} h) p =
    assign-bounded s K n s.stage (behind s App refl p.stands) x (app f a) p.within
added-bounded s K n (fit_let {n = x} {f = f} h) p =
    let_bounded s K n s.stage (behind s Let refl p.stands) x f p.within
added-bounded s K n (fit_rand {n = x}) p =
    assign-bounded s K n s.stage (behind s Rand refl p.stands) x rand p.within
added-bounded s K n fit_result p =
    same-bounded s K n (stage_after Result s.stage) (behind s Result refl p.stands) _ s.outputs
added-bounded s K n fit_masked p =
    same-bounded s K n (stage_after Masked s.stage) (behind s Masked refl p.stands) s.result s.outputs
added-bounded s K n fit_output p =
    same-bounded s K n (stage_after Output s.stage) (behind s Output refl p.stands) s.result _

-- THEOREM
pub read_limited : (text : List ℕ) → Accepts Limited (read_text text)
unfolding routine
read_limited =
    read_keeps Bounded Limited start-bounded (λ s K n w r f p. added-bounded s K n f p) (λ s K n e. record {
      some = K.begun (λ z. omega arith);
      shares = K.shares;
      maps = K.maps;
      inputs = K.inputs;
      statements =
          K.statements;
    })
