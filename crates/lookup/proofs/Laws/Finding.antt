-- What is found for the operands of a statement, put together. v is the next variable.
-- Assumes nothing.
use Prim.Native.Nat.{ℕ, ◌≤◌}
use native.Mathlib.Omega.{arith}
use mathlib.Core.Path.{◌≡◌, refl, sym, ◌∙◌, ap}
use mathlib.Core.Bool.{Bool, false, not}
use mathlib.Core.List.{List}
use lib.ListN.{length}
use Rattle.std.specs.Prelude.{Option, is_some, unwrap_or}
use Rattle.grammar.specs.declared.line.NameRef.{NameRef}
use Rattle.grammar.specs.declared.line.TermRef.{TermRef}
use Rattle.grammar.specs.declared.formula.Operation.{Operation}
use Rattle.grammar.specs.declared.record.Binary.{Binary}
use Rattle.grammar.specs.declared.record.Binary.TheVariants.{Xor, Mul}
use Rattle.grammar.specs.declared.record.FormRead.{FormRead}
use Rattle.tokens.specs.Token.{Name, name}
use Rattle.grammar.specs.Record.{Form, set, xor, mul, app, rand}
use Rattle.grammar.specs.Line.{name_in, term_in}
use Rattle.grammar.specs.Recorded.{form_in}
use Rattle.rules.specs.declared.types.Operand.TheVariants.{Place, Byte}
use Rattle.rules.specs.declared.types.Op.{Op}
use Rattle.lookup.specs.declared.scope.TermFound.{TermFound}
use Rattle.lookup.specs.declared.scope.FormFound.{FormFound}
use Rattle.rules.specs.Scope.{unknown_term, operand_in, unknown_form, op_in, drawn}
use Rattle.lookup.specs.Found.{name_found, term_found, pair_found, form_found}
use Rattle.lookup.proofs.Laws.Placing.{found-missing, found-place}

-- ---- names and operands

module _ (s : List ℕ) (ms : List Name) {a : TermRef} where
  -- an operand that is a name
  pub term-name : (n : NameRef) → a ≡ TermRef.Name n → {x : Option ℕ} → x ≡ name_found ms (name_in s n)
      → (u : Bool) → is_some x ≡ not u → (count : ℕ) → count ≡ length ms → {p : ℕ} → p ≡ unwrap_or x count
      → ◌≡◌ {A = TermFound} (record { unknown = u; operand = Place p }) (term_found ms (term_in s a))
  unfolding term_found unknown_term operand_in
  term-name n e q u h count l p =
      let missed = found-missing ms (name_in s n) q u h in
      let placed = p ∙ found-place ms (name_in s n) q l in
      (λ i. record { unknown = missed i; operand = Place (placed i) })
      ∙ ap (λ (y : TermRef). term_found ms (term_in s y)) (sym e)

  -- an operand that is a constant
  pub term-byte : (v : ℕ) → a ≡ TermRef.Byte v
      → ◌≡◌ {A = TermFound} (record { unknown = false; operand = Byte v }) (term_found ms (term_in s a))
  unfolding term_found unknown_term operand_in
  term-byte v e = ap (λ (y : TermRef). term_found ms (term_in s y)) (sym e)

-- ---- forms

drawn_few : (y : Form) → drawn y ≤ 1
unfolding drawn
drawn_few (set a) = omega arith
drawn_few (xor a b) = omega arith
drawn_few (mul a b) = omega arith
drawn_few (app f a) = omega arith
drawn_few rand = omega arith

-- a statement draws one variable at most
pub form_few : (ms maps : List Name) (v : ℕ) (y : Form) {r : FormFound} → r ≡ form_found ms maps v y → r.drawn ≤ 1
unfolding form_found
form_few ms maps v y q = omega (arith, ap (λ (z : FormFound). z.drawn) q, drawn_few y)

module _ (s : List ℕ) (ms maps : List Name) (v : ℕ) {f : FormRead} where
  -- a form as a match knows it
  form-known : {g : FormRead} {r : FormFound} → f ≡ g → r ≡ form_found ms maps v (form_in s g)
      → r ≡ form_found ms maps v (form_in s f)
  form-known e q = q ∙ ap (λ (x : FormRead). form_found ms maps v (form_in s x)) (sym e)

  -- `set`, from its operand
  pub set_form : (a : TermRef) → f ≡ FormRead.Set a → {x : TermFound} → x ≡ term_found ms (term_in s a)
      → ◌≡◌ {A = FormFound} (record { unknown = x.unknown; op = Op.Set x.operand; drawn = 0 })
      (form_found ms maps v (form_in s f))
  unfolding form_found term_found unknown_form op_in drawn
  set_form a e q =
      form-known e (λ i. record { unknown = (q i).unknown; op = Op.Set (q i).operand; drawn = 0 })

  -- `xor` and `mul`, from their operands
  pub two-form : (g : Binary) (a b : TermRef) → f ≡ FormRead.Two g a b → {r : FormFound}
      → r ≡ pair_found (Operation.Two g) (term_found ms (term_in s a)) (term_found ms (term_in s b))
      → r ≡ form_found ms maps v (form_in s f)
  unfolding form_found term_found pair_found unknown_form op_in drawn
  two-form Xor a b e q = form-known e q
  two-form Mul a b e q = form-known e q

  -- `app`, from its map and its operand
  pub app-form : (g : NameRef) (a : TermRef) → f ≡ FormRead.App g a → {r : FormFound}
      → r ≡ pair_found Operation.Image (term_found maps (name (name_in s g))) (term_found ms (term_in s a))
      → r ≡ form_found ms maps v (form_in s f)
  unfolding form_found term_found unknown_term operand_in pair_found unknown_form op_in drawn
  app-form g a e q = form-known e q

  -- `rand`
  pub rand-form : f ≡ FormRead.Rand
      → ◌≡◌ {A = FormFound} (record { unknown = false; op = Op.Rand v; drawn = 1 })
      (form_found ms maps v (form_in s f))
  unfolding form_found unknown_form op_in drawn
  rand-form e = form-known e refl
