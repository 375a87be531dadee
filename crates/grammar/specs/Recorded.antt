-- What the code's records by place stand for in a text; ps are the pieces of the record's line.
-- Assumes nothing.
use Rattle.std.specs.Prelude.{ℕ, ◌≡◌, List, map as map_list, take, drop}
use Rattle.std.specs.Prelude.{Option, None as none, Some as some}
use Rattle.tokens.specs.declared.word.Word.{Word}
use Rattle.grammar.specs.declared.line.TextLine.{TextLine}
use Rattle.grammar.specs.declared.outputs.Outputs.{Outputs}
use Rattle.grammar.specs.declared.record.Rec.{Rec}
use Rattle.grammar.specs.declared.record.Rec.TheVariants.{Shares, Map, Input, Origin, Assign, Let}
use Rattle.grammar.specs.declared.record.Rec.TheVariants.{Result, Masked, Output}
use Rattle.grammar.specs.declared.record.FormRead.{FormRead}
use Rattle.grammar.specs.declared.record.FormRead.TheVariants.{Set, Two, App, Rand}
use Rattle.grammar.specs.declared.record.Binary.{Binary}
use Rattle.tokens.specs.Token.{◌>>=◌, Name, Term, read_hex, read_name}
use Rattle.grammar.specs.Line.{name_in}
use Rattle.grammar.specs.Formula.{Formula, read_formula}
use Rattle.grammar.specs.Record.{Record, shares, map, input, origin, assign, letting, result, masked, output}
use Rattle.grammar.specs.Record.{Form, set, xor, mul, app, rand, each, field, counted}
use Rattle.grammar.specs.Record.{record_for}
use Rattle.grammar.specs.Line.{term_in}
use Rattle.grammar.specs.TextLine.{pieces_of}

-- the columns of a map line, where it has its number of fields
unfoldable pub columns_of : List (List ℕ) → Option (List ℕ)
columns_of ps = counted Word.Map ps (each read_hex (drop 3 ps))

-- the formula of a line, where it has its number of fields
unfoldable pub formula_of : List (List ℕ) → Option Formula
formula_of ps = counted Word.Let ps (read_formula (field 2 ps))

-- the names of an output line, where there are 1 to 8 of them
unfoldable pub names_of : List (List ℕ) → Option (List Name)
names_of ps = counted Word.Output ps (each read_name (drop 1 ps))

-- the operation on two operands
abbrev pub binary : Binary → Term → Term → Form
binary Binary.Xor = xor
binary Binary.Mul = mul

-- what a statement computes, as it stands in the text
abbrev pub form_in : List ℕ → FormRead → Form
form_in s (Set a) = set (term_in s a)
form_in s (Two f a b) = binary f (term_in s a) (term_in s b)
form_in s (App f a) = app (name_in s f) (term_in s a)
form_in s Rand = rand

-- what the fields of a statement were read as, or none
abbrev pub form_at : List ℕ → Option FormRead → Option Form
form_at s none = none
form_at s (some f) = some (form_in s f)

-- a map of the name x and the constant v
abbrev pub map_in : Name → ℕ → Option (List ℕ) → Option Record
map_in x v o = o >>= λ columns. some (map x v columns)

-- a formula that gives x
abbrev pub let_in : Name → Option Formula → Option Record
let_in x o = o >>= λ f. some (letting x f)

-- the record that the code's record stands for, or none
unfoldable pub record_in : List ℕ → List (List ℕ) → Rec → Option Record
record_in s ps (Shares k) = some (shares k)
record_in s ps (Map n c) = map_in (name_in s n) c (columns_of ps)
record_in s ps (Input n) = some (input (name_in s n))
record_in s ps Origin = some origin
record_in s ps (Assign n f) = some (assign (name_in s n) (form_in s f))
record_in s ps (Let n) = let_in (name_in s n) (formula_of ps)
record_in s ps (Result n) = some (result (name_in s n))
record_in s ps Masked = some masked
record_in s ps Output = names_of ps >>= λ xs. some (output xs)

-- the record that a line was read as, or none
abbrev pub record_at : List ℕ → List (List ℕ) → Option Rec → Option Record
record_at s ps none = none
record_at s ps (some r) = record_in s ps r

-- the code's record of a line is the one that the definition reads, for the word w
abbrev pub Reads : TextLine → Option Rec → Word → Type 0
Reads l r w = record_at l.text.now (pieces_of l) r ≡ record_for w (pieces_of l)

-- the names that were read
unfoldable pub names_read : List ℕ → Outputs → List Name
names_read s r = map_list (name_in s) (take r.count r.items)

-- the names that were read, or none
abbrev pub outputs_in : List ℕ → Option Outputs → Option (List Name)
outputs_in s none = none
outputs_in s (some r) = some (names_read s r)
