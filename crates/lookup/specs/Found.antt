-- What the names that a statement reads are found to be in the sets above it. Assumes nothing.
use Rattle.std.specs.Prelude.{ℕ, ◌≡◌, Bool, cond, ◌||◌, List, map, take}
use Rattle.std.specs.Prelude.{Option, None as none, Some as some}
use Rattle.rules.specs.declared.types.Operand.{Operand}
use Rattle.rules.specs.declared.types.Operand.TheVariants.{Place, Byte}
use Rattle.rules.specs.declared.types.Op.{Op}
use Rattle.lookup.specs.declared.names.Names.{Names}
use Rattle.lookup.specs.declared.names.Set.{Set}
use Rattle.lookup.specs.declared.scope.TermFound.{TermFound}
use Rattle.lookup.specs.declared.scope.FormFound.{FormFound}
use Rattle.grammar.specs.declared.formula.Operation.{Operation}
use Rattle.grammar.specs.declared.record.FormRead.{FormRead}
use Rattle.grammar.specs.declared.record.Binary.{Binary}
use Rattle.tokens.specs.Token.{Name, Term}
use Rattle.grammar.specs.Record.{Form}
use Rattle.rules.specs.Scope.{given, place_of, missing, unknown_term, operand_in, unknown_form, op_in, drawn}
use Rattle.grammar.specs.Line.{name_in, term_in}
use Rattle.grammar.specs.declared.line.NameRef.{NameRef}
use Rattle.grammar.specs.declared.line.TermRef.{TermRef}
use Rattle.tokens.specs.Ascii.{any}
use Rattle.grammar.specs.Recorded.{form_in, form_at, names_read}
use Rattle.grammar.specs.declared.outputs.Outputs.{Outputs}
use Rattle.lookup.specs.declared.outputs.PlacesFound.{PlacesFound}
use Rattle.lookup.specs.Names.{names_in, given_in}

-- a name among the names ms: its place, where it is given
unfoldable pub name_found : List Name → Name → Option ℕ
name_found ms x = cond (given x ms) (some (place_of x ms)) none

-- whether the name n is given in the set l
abbrev pub GivenIs : Set → NameRef → Bool → Type 0
GivenIs l n r = r ≡ given (name_in l.text.now n) (given_in l)

-- the name n looked up in the set l
abbrev pub NameIs : Set → NameRef → Option ℕ → Type 0
NameIs l n r = r ≡ name_found (given_in l) (name_in l.text.now n)

-- an operand among the names ms
unfoldable pub term_found : List Name → Term → TermFound
term_found ms x = record { unknown = unknown_term ms x; operand = operand_in ms x }

-- an operand looked up in the set l
abbrev pub TermIs : Set → TermRef → TermFound → Type 0
TermIs l a r = r ≡ term_found (given_in l) (term_in l.text.now a)

-- the operation on two operands, by places
abbrev pub joined : Binary → Operand → Operand → Op
joined Binary.Xor = Op.Xor
joined Binary.Mul = Op.Mul

-- an operation on two values, or on a map and a value
abbrev pub operated : Operation → Operand → Operand → Op
operated (Operation.Two b) x y = joined b x y
operated Operation.Image (Place p) y = Op.App p y
operated Operation.Image (Byte b) y = Op.Set y
operated Operation.Unknown x y = Op.Set y
operated Operation.Operand x y = Op.Set y

-- an operation on two operands that were looked up
unfoldable pub pair_found : Operation → TermFound → TermFound → FormFound
pair_found o x y =
    record { unknown = x.unknown || y.unknown; op = operated o x.operand y.operand; drawn = 0 }

-- an operation on a, looked up in the set m, and on b, looked up in the set l
abbrev pub PairIs : Set → Set → Operation → TermRef → TermRef → FormFound → Type 0
PairIs m l o a b r =
    r ≡ pair_found o (term_found (given_in m) (term_in m.text.now a)) (term_found (given_in l) (term_in l.text.now b))

-- a form among the names of its set and of the maps: whether it reads what is not given, what it is by places, and
-- the variables that it draws; v is the next variable
unfoldable pub form_found : List Name → List Name → ℕ → Form → FormFound
form_found ms maps v y =
    record { unknown = unknown_form ms maps y; op = op_in ms maps v y; drawn = drawn y }

-- what is found of a form; none where a part of it was not read
abbrev pub form_told : List Name → List Name → ℕ → Option Form → Option FormFound
form_told ms maps v none = none
form_told ms maps v (some y) = some (form_found ms maps v y)

-- the whole outcome of looking up a form, read or not, in the set l and in the maps of its table
abbrev pub FormIs : Set → Names → ℕ → Option FormRead → Option FormFound → Type 0
FormIs l maps v f r =
    r ≡ form_told (given_in l) (names_in l.text.now l.table.now maps) v (form_at l.text.now f)

-- the same of a form that was read
abbrev pub FormReadIs : Set → Names → ℕ → FormRead → FormFound → Type 0
FormReadIs l maps v f r =
    r ≡ form_found (given_in l) (names_in l.text.now l.table.now maps) v (form_in l.text.now f)

-- the whole outcome of looking the names of an output line up in the set l
pub record PlacesAre (l : Set) (o : Outputs) (r : PlacesFound) : Type 0 where
  pub unknown : r.unknown ≡ any (missing (given_in l)) (names_read l.text.now o)
  pub places : take o.count r.places ≡ map (λ x. place_of x (given_in l)) (names_read l.text.now o)
