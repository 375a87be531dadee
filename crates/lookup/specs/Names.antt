-- What the code's table of names stands for in a text, and sets of names in it. Assumes nothing.
use Rattle.std.specs.Prelude.{ℕ, zero, suc, ◌+◌, List, [], ◌∷◌, get_or, set}
use Rattle.tokens.specs.Token.{Name}
use Rattle.grammar.specs.Line.{name_in}
use Rattle.grammar.specs.declared.line.NameRef.{NameRef}
use Rattle.lookup.specs.declared.names.Names.{Names}
use Rattle.lookup.specs.declared.names.Set.{Set}

-- what stands past the end of a table
abbrev pub nowhere : NameRef
nowhere = record { at = 0; len = 0; part = 0 }

-- entry i of a table: where the name stands, its length and its part
abbrev pub entry : List NameRef → ℕ → NameRef
entry t i = get_or t i nowhere

-- the names of the entries from a place on, n of them
unfoldable pub listed : List ℕ → List NameRef → ℕ → ℕ → List Name
listed s t from zero = []
listed s t from (suc n) = name_in s (entry t from) ∷ listed s t (from + 1) n

-- the names of a set
unfoldable pub names_in : List ℕ → List NameRef → Names → List Name
names_in s t ns = listed s t ns.from ns.count

-- the names of a set, by its own text and table
abbrev pub given_in : Set → List Name
given_in l = names_in l.text.now l.table.now l.names

-- a table with the name x as entry `at`
abbrev pub put : List NameRef → ℕ → NameRef → List NameRef
put t at x = set t at x

-- a table with the shares x.0, x.1 .. of an input, k of them, as the entries from `at` on
unfoldable pub put_shares : List NameRef → ℕ → NameRef → ℕ → List NameRef
put_shares t at x zero = t
put_shares t at x (suc k) = put (put_shares t at x k) (at + k) (record { at = x.at; len = x.len; part = k })
