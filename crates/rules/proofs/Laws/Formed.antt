-- THEOREM: the routine of every accepted text is well formed.
-- Assumes nothing.
use mathlib.Core.Path.{◌≡◌, refl, sym, ap, subst}
use Prim.Native.Nat.{ℕ, ◌+◌, ◌*◌, ◌≤◌}
use native.Mathlib.Omega.{arith}
use native.Mathlib.Nat.{zero-mul}
use mathlib.Core.Bool.{Bool, true, false}
use mathlib.Core.List.{List, [], ◌∷◌}
use lib.Dec.{ltb, eqb}
use lib.ListN.{length}
use borrow.Author.Tests.{ltb-false}
use Rattle.tokens.specs.declared.word.Word.{Word}
use Rattle.tokens.specs.declared.word.Word.TheVariants.{Shares, Map, Input, Origin, Set, Xor, Mul, App, Let}
use Rattle.tokens.specs.declared.word.Word.TheVariants.{Rand, Result, Masked, Output, Unknown}
use Rattle.rules.specs.declared.types.Statement.{Statement}
use Rattle.tokens.specs.Token.{Name}
use Rattle.grammar.specs.Formula.{Formula}
use Rattle.grammar.specs.Record.{Form, set, xor, mul, app, rand, Record, assign, letting}
use Rattle.rules.specs.Order.{at_start, in_masked, may_stand, stage_after}
use Rattle.rules.specs.State.{State, start}
use Rattle.rules.specs.Grown.{at_stage, with_shares, with_map, with_input}
use Rattle.rules.specs.Stated.{with_origin, with_masked}
use Rattle.rules.specs.Stated.{with_origin_all, with_masked_all}
use Rattle.rules.specs.Grown.{with_result, with_outputs}
use Rattle.rules.specs.Scope.{drawn}
use Rattle.rules.specs.Faults.{block, statement_count, exceeds}
use Rattle.rules.specs.Limits.{most_variables, most_inputs, most_statements}
use Rattle.rules.specs.Scope.{op_in}
use Rattle.rules.specs.Added.{added}
use Rattle.rules.specs.Read.{routine, read_text}
use Rattle.rules.specs.Formed.{Each, FormedOp, FormedStatement, FormedMap, Formed}
use Rattle.rules.proofs.Laws.Keeping.{Accepts, read_keeps}
use Rattle.rules.proofs.Laws.Letting.{each_append, operand-formed, let_formed}
use Rattle.rules.proofs.Laws.Stating.{stated}
use Rattle.tokens.proofs.Laws.Flags.{true-false, or_false}
use Rattle.grammar.proofs.Laws.Holding.{FormedTerm, FormedFormula}
use Rattle.grammar.proofs.Laws.Fits.{Fits, fit_shares, fit_map, fit_input, fit_origin, fit_set, fit_xor, fit_mul}
use Rattle.grammar.proofs.Laws.Fits.{fit_app, fit_let, fit_rand, fit_result, fit_masked, fit_output}

-- ---- what every line keeps

record Kept (s : State) : Type 0 where
  maps : Each FormedMap s.maps
  origin : Each FormedStatement s.origin.statements
  masked : Each FormedStatement s.masked.statements
  fits : s.inputs * s.shares ≤ s.variables
  room : s.variables ≤ most_variables
  begun : s.stage ≡ at_start → s.inputs ≡ 0

start-kept : Kept start
unfolding start
start-kept = record { maps = tt; origin = tt; masked = tt; fits = omega arith; room = omega arith; begun = λ e. refl }

-- no record leads back to the start
moves : (w : Word) (stage : ℕ) → may_stand w stage ≡ true → stage_after w stage ≡ at_start → ⊥
moves Shares stage m e = omega arith
moves Map stage m e = omega arith
moves Input stage m e = omega arith
moves Origin stage m e = omega arith
moves Set stage m e = true-false (sym (subst (λ (k : ℕ). may_stand Set k ≡ true) e m))
moves Xor stage m e = true-false (sym (subst (λ (k : ℕ). may_stand Xor k ≡ true) e m))
moves Mul stage m e = true-false (sym (subst (λ (k : ℕ). may_stand Mul k ≡ true) e m))
moves App stage m e = true-false (sym (subst (λ (k : ℕ). may_stand App k ≡ true) e m))
moves Let stage m e = true-false (sym (subst (λ (k : ℕ). may_stand Let k ≡ true) e m))
moves Rand stage m e = true-false (sym (subst (λ (k : ℕ). may_stand Rand k ≡ true) e m))
moves Result stage m e = omega arith
moves Masked stage m e = omega arith
moves Output stage m e = omega arith
moves Unknown stage m e = true-false (sym m)

-- what a form's operands have to be
abbrev FormedForm : Form → Type 0
FormedForm (set a) = FormedTerm a
FormedForm (xor a b) = FormedTerm a × FormedTerm b
FormedForm (mul a b) = FormedTerm a × FormedTerm b
FormedForm (app f a) = FormedTerm a
FormedForm rand = Unit {0}

op-formed : (ms maps : List Name) (v : ℕ) (f : Form) → FormedForm f → FormedOp (op_in ms maps v f)
unfolding op_in
op-formed ms maps v (set a) h = operand-formed ms a h
op-formed ms maps v (xor a b) h = (operand-formed ms a h.0, operand-formed ms b h.1)
op-formed ms maps v (mul a b) h = (operand-formed ms a h.0, operand-formed ms b h.1)
op-formed ms maps v (app f a) h = operand-formed ms a h
op-formed ms maps v rand h = tt

module _ (s : State) (K : Kept s) (n stage : ℕ) (moved : stage ≡ at_start → ⊥) where
  -- nothing but the stage, the result and the outputs is new
  same_kept : (p : ℕ) (os : List ℕ) → Kept (at_stage stage (with_outputs os (with_result p s)))
  unfolding at_stage with_outputs with_result
  same_kept p os = record {
    maps = K.maps;
    origin = K.origin;
    masked = K.masked;
    fits = K.fits;
    room = K.room;
    begun = λ e. absurd (moved e);
  }

  -- more statements, whose constants are bytes
  stated-kept : (b : Bool) (ns : List Name) (sts : List Statement) (v : ℕ) → s.variables ≤ v → v ≤ most_variables
      → Each FormedStatement sts → Kept (at_stage stage (stated b ns sts v s))
  unfolding at_stage
  stated-kept true ns sts v l u h = record {
    maps = K.maps;
    origin = K.origin;
    masked = each_append FormedStatement s.masked.statements sts K.masked h;
    fits = omega (arith, K.fits);
    room = u;
    begun = λ e. absurd (moved e);
  }
  stated-kept false ns sts v l u h = record {
    maps = K.maps;
    origin = each_append FormedStatement s.origin.statements sts K.origin h;
    masked = K.masked;
    fits = K.fits;
    room = K.room;
    begun = λ e. absurd (moved e);
  }

  assign-kept : (x : Name) (f : Form) → FormedForm f → exceeds s (assign x f) ≡ false
      → Kept (at_stage stage (added n (assign x f) s))
  unfolding added exceeds with_masked with_origin
  assign-kept x f h e =
      stated-kept (eqb s.stage in_masked) (x ∷ []) _ (s.variables + drawn f) (omega arith)
      (ltb-false most_variables (s.variables + drawn f)
      (or_false (ltb most_statements (statement_count s + 1)) (ltb most_variables (s.variables + drawn f)) e).1)
      (op-formed (block s).names s.map_names s.variables f h, tt)

  let_kept : (x : Name) (f : Formula) → FormedFormula f → Kept (at_stage stage (added n (letting x f) s))
  unfolding added with_masked_all with_origin_all
  let_kept x f h =
      let ms : List Name = (block s).names in
      stated-kept (eqb s.stage in_masked) _ _ s.variables (omega arith) K.room
      (let_formed ms s.map_names (length ms) n f h [] tt)

-- a record that may stand and exceeds nothing
added-kept : (s : State) → Kept s → (n : ℕ) {w : Word} {r : Record} → Fits w r → may_stand w s.stage ≡ true
    → exceeds s r ≡ false
    → Kept (at_stage (stage_after w s.stage) (added n r s))
unfolding at_stage added exceeds with_shares with_map with_input with_result with_outputs
added-kept s K n (fit_shares {k = k} low high) m e =
    let none : s.inputs ≡ 0 = K.begun (eqb-start s.stage m) in
    record {
      maps = K.maps;
      origin = K.origin;
      masked = K.masked;
      fits = omega (arith, ap (λ (i : ℕ). i * k) none, zero-mul k);
      room = K.room;
      begun = λ e. omega arith;
    }
  where
    eqb-start : (stage : ℕ) → eqb stage at_start ≡ true → stage ≡ at_start
    eqb-start stage t = borrow.Author.Tests.eqb-true stage at_start t
added-kept s K n (fit_map {c = c} {l = l} h e8 hl) m e = record {
  maps = each_append FormedMap s.maps (record { constant = c; columns = l } ∷ []) K.maps
      (record { constant = h; eight = e8; columns = hl }, tt);
  origin = K.origin;
  masked = K.masked;
  fits = K.fits;
  room = K.room;
  begun = λ e. omega arith;
}
added-kept s K n (fit_input {n = x}) m e =
    let bound = ltb-false most_variables (s.variables + s.shares)
    (or_false (ltb most_inputs (s.inputs + 1)) (ltb most_variables (s.variables + s.shares)) e).1 in
    record {
      maps = K.maps;
      origin = K.origin;
      masked = K.masked;
      fits = omega (arith, K.fits);
      room = bound;
      begun = λ e. omega arith;
    }
added-kept s K n fit_origin m e =
    same_kept s K n (stage_after Origin s.stage) (moves Origin s.stage m) s.result s.outputs
added-kept s K n (fit_set {n = x} {a = a} h) m e = assign-kept s K n s.stage (moves Set s.stage m) x (set a) h e
added-kept s K n (fit_xor {n = x} {a = a} {b = b} h k) m e = assign-kept s K n s.stage (moves Xor s.stage m) x
    (xor a b) (h, k) e
added-kept s K n (fit_mul {n = x} {a = a} {b = b} h k) m e = assign-kept s K n s.stage (moves Mul s.stage m) x
    (mul a b) (h, k) e
added-kept s K n (fit_app {n = x} {f = f} {a = a} h) m e = assign-kept s K n s.stage (moves App s.stage m) x
    (app f a) h e
added-kept s K n (fit_let {n = x} {f = f} h) m e = let_kept s K n s.stage (moves Let s.stage m) x f h
added-kept s K n (fit_rand {n = x}) m e = assign-kept s K n s.stage (moves Rand s.stage m) x rand tt e
added-kept s K n fit_result m e =
    same_kept s K n (stage_after Result s.stage) (moves Result s.stage m) _ s.outputs
added-kept s K n fit_masked m e =
    same_kept s K n (stage_after Masked s.stage) (moves Masked s.stage m) s.result s.outputs
added-kept s K n fit_output m e =
    same_kept s K n (stage_after Output s.stage) (moves Output s.stage m) s.result _

-- THEOREM
pub read-formed : (text : List ℕ) → Accepts Formed (read_text text)
unfolding routine
read-formed =
    read_keeps Kept Formed start-kept (λ s K n w r f p. added-kept s K n f p.stands p.within)
    (λ s K n e. record { maps = K.maps; origin = K.origin; masked = K.masked; fits = K.fits; room = K.room })
