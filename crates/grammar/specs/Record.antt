-- The grammar of one line whose word is known: the number of its fields, and the form of each (refusal 5, from the
-- line alone). Assumes nothing.
use Rattle.std.specs.Prelude.{ℕ, ◌+◌, Bool, false, cond, List, [], ◌∷◌, ltb, eqb, length, get_or, drop}
use Rattle.std.specs.Prelude.{Option, None as none, Some as some}
use Rattle.tokens.specs.declared.word.Word.{Word}
use Rattle.tokens.specs.declared.word.Word.TheVariants.{Shares, Map, Input, Origin, Set, Xor, Mul, App, Let}
use Rattle.tokens.specs.declared.word.Word.TheVariants.{Rand, Result, Masked, Output, Unknown}
use Rattle.grammar.specs.Formula.{Formula, depth, read_formula}
use Rattle.tokens.specs.Ascii.{within}
use Rattle.tokens.specs.Limits.{column_count, most_shares, most_depth}
use Rattle.tokens.specs.Token.{◌>>=◌, Name, Term, read_name, read_plain, read_hex, read_count, read_term}

-- What a statement computes, as it is written.
pub data Form : Type 0 where
  set : Term → Form
  xor mul : Term → Term → Form
  app : Name → Term → Form
  rand : Form

-- A record as it is written.
pub data Record : Type 0 where
  shares : ℕ → Record
  map : Name → ℕ → List ℕ → Record
  input : Name → Record
  origin : Record
  assign : Name → Form → Record
  letting : Name → Formula → Record
  result : Name → Record
  masked : Record
  output : List Name → Record

-- each field has the form
unfoldable pub each : {A : Type 0} → (List ℕ → Option A) → List (List ℕ) → Option (List A)
each f [] = some []
each f (x ∷ xs) = f x >>= λ a. each f xs >>= λ rest. some (a ∷ rest)

-- piece k of a line: the word is piece 0, the first field after it piece 1
abbrev pub field : ℕ → List (List ℕ) → List ℕ
field k ps = get_or ps k []

-- p pieces are the word and n fields
abbrev pub fields : ℕ → ℕ → Bool
fields n p = eqb p (n + 1)

-- how many fields a line of each word may have (output: 1 to 8 names); p counts its pieces, the word among them
abbrev pub may_have : Word → ℕ → Bool
may_have Shares p = fields 1 p
may_have Map p = fields (2 + column_count) p
may_have Input p = fields 1 p
may_have Origin p = fields 0 p
may_have Set p = fields 2 p
may_have Xor p = fields 3 p
may_have Mul p = fields 3 p
may_have App p = fields 3 p
may_have Let p = fields 2 p
may_have Rand p = fields 1 p
may_have Result p = fields 1 p
may_have Masked p = fields 0 p
may_have Output p = within (1 + 1) (most_shares + 1) p
may_have Unknown p = false

-- a statement that gives the name of field 1
abbrev pub assigned : List (List ℕ) → Option Form → Option Record
assigned ps o = read_name (field 1 ps) >>= λ n. o >>= λ f. some (assign n f)

-- two operands, in fields 2 and 3
abbrev pub operands : (Term → Term → Form) → List (List ℕ) → Option Form
operands f ps = read_term (field 2 ps) >>= λ a. read_term (field 3 ps) >>= λ b. some (f a b)

-- a map in field 2, and the operand that it is applied to in field 3
abbrev pub image : List (List ℕ) → Option Form
image ps = read_plain (field 2 ps) >>= λ f. read_term (field 3 ps) >>= λ a. some (app f a)

-- the record that the fields of a line make, each by its form, the word known
unfoldable pub read_fields : Word → List (List ℕ) → Option Record
read_fields Shares ps = read_count (field 1 ps) >>= λ k. some (shares k)
read_fields Map ps =
    read_plain (field 1 ps) >>= λ n. read_hex (field 2 ps) >>= λ c. each read_hex (drop 3 ps) >>= λ l. some (map n c l)
read_fields Input ps = read_plain (field 1 ps) >>= λ n. some (input n)
read_fields Origin ps = some origin
read_fields Set ps = assigned ps (read_term (field 2 ps) >>= λ a. some (set a))
read_fields Xor ps = assigned ps (operands xor ps)
read_fields Mul ps = assigned ps (operands mul ps)
read_fields App ps = assigned ps (image ps)
read_fields Let ps = read_name (field 1 ps) >>= λ n. read_formula (field 2 ps) >>= λ f. some (letting n f)
read_fields Rand ps = assigned ps (some rand)
read_fields Result ps = read_name (field 1 ps) >>= λ n. some (result n)
read_fields Masked ps = some masked
read_fields Output ps = each read_name (drop 1 ps) >>= λ ns. some (output ns)
read_fields Unknown ps = none

-- what was read, where the line has a number of fields that its word may have
abbrev pub counted : {A : Type 0} → Word → List (List ℕ) → Option A → Option A
counted w ps r = cond (may_have w (length ps)) r none

-- the record that the pieces of a line make, its word known
unfoldable pub record_for : Word → List (List ℕ) → Option Record
record_for w ps = counted w ps (read_fields w ps)

-- 13: nesting above 8
unfoldable pub nests : Record → Bool
nests (shares k) = false
nests (map n c columns) = false
nests (input n) = false
nests origin = false
nests (assign n f) = false
nests (letting n f) = ltb most_depth (depth f)
nests (result n) = false
nests masked = false
nests (output ns) = false
