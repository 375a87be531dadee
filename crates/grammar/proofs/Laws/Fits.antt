-- What a record has that a line makes: it is one of its word, its constants are bytes, also in a formula, and a map has
-- eight columns. Assumes nothing.
use mathlib.Core.Path.{◌≡◌, ap, ◌∙◌}
use Prim.Native.Nat.{ℕ, ◌+◌, ◌-◌, ◌≤◌}
use mathlib.Core.Bool.{true}
use mathlib.Core.List.{List}
use Rattle.std.specs.Prelude.{Option, None as none, Some as some}
use lib.ListN.{length, drop, length-drop}
use borrow.Author.Tests.{eqb-true}
use Rattle.tokens.specs.declared.word.Word.{Word}
use Rattle.tokens.specs.declared.word.Word.TheVariants.{Shares, Map, Input, Origin, Set, Xor, Mul, App, Let}
use Rattle.tokens.specs.declared.word.Word.TheVariants.{Rand, Result, Masked, Output, Unknown}
use Rattle.tokens.specs.Token.{◌>>=◌, Name, Term, read_name, read_plain, read_hex, read_count, read_term}
use Rattle.tokens.specs.Limits.{column_count, most_shares}
use Rattle.tokens.specs.Byte.{Each, IsByte}
use Rattle.grammar.specs.Formula.{Formula, read_formula}
use Rattle.grammar.specs.Record.{Form, set, xor, mul, app, rand, Record, shares, map, input, origin, assign}
use Rattle.grammar.specs.Record.{letting, result, masked, output, each, field, assigned, operands, image}
use Rattle.grammar.specs.Record.{may_have, read_fields, record_for}
use Rattle.grammar.proofs.Laws.Holding.{Holds, bind_holds, bind_any, cond-holds, hex_byte, CountForm}
use Rattle.grammar.proofs.Laws.Holding.{FormedTerm, term-formed, Columns, hexes-formed, FormedFormula}
use Rattle.grammar.proofs.Laws.Holding.{count-formed, formula-formed}

-- a record of a word
pub data Fits : Word → Record → Type 0 where
  fit_shares : {k : ℕ} → 1 ≤ k → k ≤ most_shares → Fits Shares (shares k)
  fit_map : {n : Name} {c : ℕ} {l : List ℕ} → IsByte c → length l ≡ column_count → Each IsByte l → Fits Map (map n c l)
  fit_input : {n : Name} → Fits Input (input n)
  fit_origin : Fits Origin origin
  fit_set : {n : Name} {a : Term} → FormedTerm a → Fits Set (assign n (set a))
  fit_xor : {n : Name} {a b : Term} → FormedTerm a → FormedTerm b → Fits Xor (assign n (xor a b))
  fit_mul : {n : Name} {a b : Term} → FormedTerm a → FormedTerm b → Fits Mul (assign n (mul a b))
  fit_app : {n f : Name} {a : Term} → FormedTerm a → Fits App (assign n (app f a))
  fit_let : {n : Name} {f : Formula} → FormedFormula f → Fits Let (letting n f)
  fit_rand : {n : Name} → Fits Rand (assign n rand)
  fit_result : {n : Name} → Fits Result (result n)
  fit_masked : Fits Masked masked
  fit_output : {ns : List Name} → Fits Output (output ns)

-- whatever name it gives, the statement is a record of the word
abbrev Gives : Word → Form → Type 0
Gives w f = (n : Name) → Fits w (assign n f)

-- a statement
assigned-fits : (w : Word) (ps : List (List ℕ)) (o : Option Form) → Holds (Gives w) o → Holds (Fits w) (assigned ps o)
assigned-fits w ps o h =
    bind_any (Fits w) (read_name (field 1 ps)) (λ n. o >>= λ f. some (assign n f)) (λ n.
    bind_holds (Gives w) (Fits w) o (λ f. some (assign n f)) h (λ f g. g n))

-- an operand, and what is made of it
operand_gives : (w : Word) (s : List ℕ) (f : Term → Option Form) → ((a : Term) → FormedTerm a → Holds (Gives w) (f a))
    → Holds (Gives w) (read_term s >>= f)
operand_gives w s f g = bind_holds FormedTerm (Gives w) (read_term s) f (term-formed s) g

-- two operands
operands_give : (w : Word) (f : Term → Term → Form) (ps : List (List ℕ))
    → ((a b : Term) → FormedTerm a → FormedTerm b → Gives w (f a b)) → Holds (Gives w) (operands f ps)
operands_give w f ps g =
    operand_gives w (field 2 ps) (λ a. read_term (field 3 ps) >>= λ b. some (f a b)) (λ a h.
    operand_gives w (field 3 ps) (λ b. some (f a b)) (λ b k. g a b h k))

-- what the fields make is a record of the word
fields_fit : (w : Word) (ps : List (List ℕ)) → may_have w (length ps) ≡ true → Holds (Fits w) (read_fields w ps)
unfolding read_fields
fields_fit Shares ps h =
    bind_holds CountForm (Fits Shares) (read_count (field 1 ps)) (λ k. some (shares k))
    (count-formed (field 1 ps)) (λ k h. fit_shares h.0 h.1)
fields_fit Map ps e =
    let many : length ps ≡ 2 + column_count + 1 = eqb-true (length ps) (2 + column_count + 1) e in
    bind_any (Fits Map) (read_plain (field 1 ps)) (λ n. read_hex (field 2 ps) >>= λ c.
    each read_hex (drop 3 ps) >>= λ l. some (map n c l)) (λ n.
    bind_holds IsByte (Fits Map) (read_hex (field 2 ps)) (λ c. each read_hex (drop 3 ps) >>= λ l. some (map n c l))
    (hex_byte (field 2 ps)) (λ c h.
    bind_holds (Columns (length (drop 3 ps))) (Fits Map) (each read_hex (drop 3 ps)) (λ l. some (map n c l))
    (hexes-formed (drop 3 ps)) (λ l k.
    fit_map h (k.0 ∙ length-drop 3 ps ∙ ap (λ (i : ℕ). i - 3) many) k.1)))
fields_fit Input ps h = bind_any (Fits Input) (read_plain (field 1 ps)) (λ n. some (input n)) (λ n. fit_input)
fields_fit Origin ps h = fit_origin
fields_fit Set ps h =
    assigned-fits Set ps (read_term (field 2 ps) >>= λ a. some (set a))
    (operand_gives Set (field 2 ps) (λ a. some (set a)) (λ a h n. fit_set h))
fields_fit Xor ps h =
    assigned-fits Xor ps (operands xor ps) (operands_give Xor xor ps (λ a b h k n. fit_xor h k))
fields_fit Mul ps h =
    assigned-fits Mul ps (operands mul ps) (operands_give Mul mul ps (λ a b h k n. fit_mul h k))
fields_fit App ps h =
    assigned-fits App ps (image ps)
    (bind_any (Gives App) (read_plain (field 2 ps)) (λ f. read_term (field 3 ps) >>= λ a. some (app f a)) (λ f.
    operand_gives App (field 3 ps) (λ a. some (app f a)) (λ a h n. fit_app h)))
fields_fit Let ps h =
    let o = read_formula (field 2 ps) in
    bind_any (Fits Let) (read_name (field 1 ps)) (λ n. o >>= λ f. some (letting n f)) (λ n.
    bind_holds FormedFormula (Fits Let) o (λ f. some (letting n f)) (formula-formed (field 2 ps)) (λ f h. fit_let h))
fields_fit Rand ps h = assigned-fits Rand ps (some rand) (λ n. fit_rand)
fields_fit Result ps h = bind_any (Fits Result) (read_name (field 1 ps)) (λ n. some (result n)) (λ n. fit_result)
fields_fit Masked ps h = fit_masked
fields_fit Output ps h =
    bind_any (Fits Output) (each read_name (drop 1 ps)) (λ ns. some (output ns)) (λ ns. fit_output)
fields_fit Unknown ps h = tt

-- THEOREM: what a line makes is a record of its word
pub record_fits : (w : Word) (ps : List (List ℕ)) → Holds (Fits w) (record_for w ps)
unfolding record_for
record_fits w ps = cond-holds (Fits w) (may_have w (length ps)) (read_fields w ps) none (fields_fit w ps) tt
