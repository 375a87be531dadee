-- What is known of a record that a line makes: its word, that its names and operands are spelt by fields, and how many
-- bytes its line has at most. Assumes nothing.
use Prim.Native.Nat.{ℕ, ◌+◌, ◌≤◌}
use native.Mathlib.Omega.{arith}
use mathlib.Core.Path.{◌≡◌, ap, ◌∙◌, subst}
use mathlib.Core.Bool.{true}
use mathlib.Core.List.{List}
use Rattle.std.specs.Prelude.{Option, Some as some}
use lib.Dec.{leb}
use lib.ListN.{length, drop, length-drop}
use borrow.Author.Tests.{eqb-true, leb-true}
use Rattle.tokens.specs.declared.word.Word.{Word}
use Rattle.tokens.specs.declared.word.Word.TheVariants.{Shares, Map, Input, Origin, Set, Xor, Mul, App, Let, Rand}
use Rattle.tokens.specs.declared.word.Word.TheVariants.{Result, Masked, Output, Unknown}
use Rattle.tokens.specs.Byte.{Each}
use Rattle.tokens.specs.Token.{◌>>=◌, Name, Term, read_name, read_plain, read_hex, read_count, read_term}
use Rattle.tokens.specs.Word.{word_of}
use Rattle.tokens.proofs.Laws.Flags.{and-true}
use Rattle.tokens.proofs.Laws.Some.{none-some, some_same, cond-some, bind_some}
use Rattle.tokens.proofs.Laws.Joined.{weight}
use Rattle.tokens.proofs.Laws.Written.{Named}
use Rattle.tokens.proofs.Laws.Terms.{Termed}
use Rattle.grammar.specs.Formula.{Formula, read_formula}
use Rattle.grammar.specs.Record.{Form, set, xor, mul, app, rand, Record, shares, map, input, origin, assign}
use Rattle.grammar.specs.Record.{letting, result, masked, output, each, field, fields, assigned, operands}
use Rattle.grammar.specs.Record.{image, may_have, read_fields, record_for}
use Rattle.grammar.proofs.Laws.Written.{SpeltForm, word_for}
use Rattle.grammar.proofs.Laws.Spelt.{Spelt, formula-spelt}
use Rattle.grammar.proofs.Laws.Sizes.{Spells, word_spells, name-size, plain_size, term-size, hex_size}
use Rattle.grammar.proofs.Laws.Sizes.{count-size, each-size, weight-front, weight-whole}

-- A record of a word, from a line whose pieces weigh c: as many bytes as it has, and its line feed.
pub data Made : Word → Record → ℕ → Type 0 where
  made-shares : {k c : ℕ} → c ≤ 9 → Made Shares (shares k) c
  made-map : {n : Name} {k : ℕ} {l : List ℕ} {c : ℕ} → c ≤ 46 → Made Map (map n k l) c
  made-input : {n : Name} {c : ℕ} → Named n → c ≤ 21 → Made Input (input n) c
  made-origin : {c : ℕ} → c ≤ 7 → Made Origin origin c
  made-assign : {n : Name} {f : Form} {c : ℕ} → Named n → SpeltForm f → c ≤ 49 → Made (word_for f) (assign n f) c
  made_let : {n : Name} {f : Formula} {c : ℕ} → Named n → Spelt f → Made Let (letting n f) c
  made-result : {n : Name} {c : ℕ} → Named n → c ≤ 22 → Made Result (result n) c
  made-masked : {c : ℕ} → c ≤ 7 → Made Masked masked c
  made-output : {ns : List Name} {c : ℕ} → Each Named ns → c ≤ 127 → Made Output (output ns) c

-- ---- records

-- a statement: its name and what it computes
assigned-made : (ps : List (List ℕ)) (o : Option Form) {r : Record} → assigned ps o ≡ some r
    → (n : Name) × (f : Form) × (assign n f ≡ r) × Named n × (length (field 1 ps) ≤ 14) × (o ≡ some f)
assigned-made ps o e =
    let a = bind_some (read_name (field 1 ps)) (λ n. o >>= λ f. some (assign n f)) e in
    let b = bind_some o (λ f. some (assign a.0 f)) a.2 in
    let k = name-size (field 1 ps) a.0 a.1 in
    (a.0, b.0, some_same b.2, k.0, k.1, b.1)

operands-made : (g : Term → Term → Form) (ps : List (List ℕ)) {f : Form} → operands g ps ≡ some f
    → (a : Term) × (b : Term) × (g a b ≡ f) × Termed a × Termed b × (length (field 2 ps) + length (field 3 ps) ≤ 28)
operands-made g ps e =
    let a = bind_some (read_term (field 2 ps)) (λ a. read_term (field 3 ps) >>= λ b. some (g a b)) e in
    let b = bind_some (read_term (field 3 ps)) (λ b. some (g a.0 b)) a.2 in
    let k = term-size (field 2 ps) a.0 a.1 in
    let l = term-size (field 3 ps) b.0 b.1 in
    (a.0, b.0, some_same b.2, k.0, l.0, omega (arith, k.1, l.1))

-- `xor` or `mul`: g is the operation, and k makes its statement
two_made : (w : Word) (g : Term → Term → Form)
    → ((n : Name) (a b : Term) (c : ℕ) → Named n → Termed a → Termed b → c ≤ 49 → Made w (assign n (g a b)) c)
    → (ps : List (List ℕ)) (r : Record) → length (field 0 ps) ≡ 3 → fields 3 (length ps) ≡ true
    → assigned ps (operands g ps) ≡ some r → Made w r (weight ps)
two_made w g k ps r s h e =
    let m = assigned-made ps (operands g ps) e in
    let b = operands-made g ps m.5 in
    subst (λ (q : Record). Made w q (weight ps)) (ap (assign m.0) b.2 ∙ m.2)
    (k m.0 b.0 b.1 (weight ps) m.3 b.3 b.4 (omega (arith, weight-whole 3 ps h, m.4, b.5)))

-- what is known of a record that the fields of a line make
fields_made : (w : Word) (ps : List (List ℕ)) (r : Record) → Spells w (field 0 ps) → may_have w (length ps) ≡ true
    → read_fields w ps ≡ some r → Made w r (weight ps)
unfolding read_fields
fields_made Shares ps r s h e =
    let b = bind_some (read_count (field 1 ps)) (λ k. some (shares k)) e in
    subst (λ (q : Record). Made Shares q (weight ps)) (some_same b.2)
    (made-shares (omega (arith, weight-whole 1 ps h, count-size (field 1 ps) b.0 b.1)))
fields_made Map ps r s h e =
    let a = bind_some (read_plain (field 1 ps)) (λ n. read_hex (field 2 ps) >>= λ c.
    each read_hex (drop 3 ps) >>= λ l. some (map n c l)) e in
    let b = bind_some (read_hex (field 2 ps)) (λ c. each read_hex (drop 3 ps) >>= λ l. some (map a.0 c l)) a.2 in
    let c = bind_some (each read_hex (drop 3 ps)) (λ l. some (map a.0 b.0 l)) b.2 in
    let z = each-size read_hex (λ v. Unit {0}) 2
    (λ p v h. (tt, (let i = hex_size p v h in omega arith))) (drop 3 ps) c.0 c.1 in
    let many : length ps ≡ 11 = eqb-true (length ps) 11 h in
    subst (λ (q : Record). Made Map q (weight ps)) (some_same c.2)
    (made-map (omega (
      arith,
      weight-front 2 ps (omega arith),
      length-drop 3 ps,
      z.1,
      (plain_size (field 1 ps) a.0 a.1).1,
      hex_size (field 2 ps) b.0 b.1,
    )))
fields_made Input ps r s h e =
    let b = bind_some (read_plain (field 1 ps)) (λ n. some (input n)) e in
    let z = plain_size (field 1 ps) b.0 b.1 in
    subst (λ (q : Record). Made Input q (weight ps)) (some_same b.2)
    (made-input z.0.named (omega (arith, weight-whole 1 ps h, z.1)))
fields_made Origin ps r s h e =
    subst (λ (q : Record). Made Origin q (weight ps)) (some_same e)
    (made-origin (omega (arith, weight-whole 0 ps h)))
fields_made Set ps r s h e =
    let m = assigned-made ps (read_term (field 2 ps) >>= λ a. some (set a)) e in
    let b = bind_some (read_term (field 2 ps)) (λ a. some (set a)) m.5 in
    let t = term-size (field 2 ps) b.0 b.1 in
    subst (λ (q : Record). Made Set q (weight ps)) (ap (assign m.0) (some_same b.2) ∙ m.2)
    (made-assign {f = set b.0} m.3 t.0 (omega (arith, weight-whole 2 ps h, m.4, t.1)))
fields_made Xor ps r s h e =
    two_made Xor xor (λ n a b c k x y l. made-assign {f = xor a b} k (x, y) l) ps r s h e
fields_made Mul ps r s h e =
    two_made Mul mul (λ n a b c k x y l. made-assign {f = mul a b} k (x, y) l) ps r s h e
fields_made App ps r s h e =
    let m = assigned-made ps (image ps) e in
    let b = bind_some (read_plain (field 2 ps)) (λ f. read_term (field 3 ps) >>= λ a. some (app f a)) m.5 in
    let c = bind_some (read_term (field 3 ps)) (λ a. some (app b.0 a)) b.2 in
    let y = plain_size (field 2 ps) b.0 b.1 in
    let z = term-size (field 3 ps) c.0 c.1 in
    subst (λ (q : Record). Made App q (weight ps)) (ap (assign m.0) (some_same c.2) ∙ m.2)
    (made-assign {f = app b.0 c.0} m.3 (y.0, z.0)
    (omega (arith, weight-whole 3 ps h, m.4, y.1, z.1)))
fields_made Let ps r s h e =
    let b = bind_some (read_name (field 1 ps)) (λ n. read_formula (field 2 ps) >>= λ f. some (letting n f)) e in
    let c = bind_some (read_formula (field 2 ps)) (λ f. some (letting b.0 f)) b.2 in
    subst (λ (q : Record). Made Let q (weight ps)) (some_same c.2)
    (made_let (name-size (field 1 ps) b.0 b.1).0 (formula-spelt (field 2 ps) c.0 c.1))
fields_made Rand ps r s h e =
    let m = assigned-made ps (some rand) e in
    subst (λ (q : Record). Made Rand q (weight ps)) (ap (assign m.0) (some_same m.5) ∙ m.2)
    (made-assign {f = rand} m.3 tt (omega (arith, weight-whole 1 ps h, m.4)))
fields_made Result ps r s h e =
    let b = bind_some (read_name (field 1 ps)) (λ n. some (result n)) e in
    let z = name-size (field 1 ps) b.0 b.1 in
    subst (λ (q : Record). Made Result q (weight ps)) (some_same b.2)
    (made-result z.0 (omega (arith, weight-whole 1 ps h, z.1)))
fields_made Masked ps r s h e =
    subst (λ (q : Record). Made Masked q (weight ps)) (some_same e)
    (made-masked (omega (arith, weight-whole 0 ps h)))
fields_made Output ps r s h e =
    let b = bind_some (each read_name (drop 1 ps)) (λ ns. some (output ns)) e in
    let i = and-true (leb 2 (length ps)) (leb (length ps) 9) h in
    let some-name : 2 ≤ length ps = leb-true 2 (length ps) i.0 in
    let few : length ps ≤ 9 = leb-true (length ps) 9 i.1 in
    let z = each-size read_name Named 14 name-size (drop 1 ps) b.0 b.1 in
    subst (λ (q : Record). Made Output q (weight ps)) (some_same b.2)
    (made-output z.0 (omega (arith, weight-front 0 ps (omega arith), length-drop 1 ps, z.1)))
fields_made Unknown ps r s h e = none-some e

-- THEOREM: what is known of a record that a line makes
pub line_made : (ps : List (List ℕ)) (r : Record) → record_for (word_of (field 0 ps)) ps ≡ some r
    → Made (word_of (field 0 ps)) r (weight ps)
unfolding record_for
line_made ps r e =
    let w = word_of (field 0 ps) in
    let k = cond-some (may_have w (length ps)) (read_fields w ps) e in
    fields_made w ps r (word_spells (field 0 ps)) k.0 k.1
