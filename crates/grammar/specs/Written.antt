-- How a statement is written: the bytes of its line. Assumes nothing.
use Rattle.std.specs.Prelude.{ℕ, List, [], ◌∷◌}
use Rattle.tokens.specs.Ascii.{ascii, tab}
use Rattle.tokens.specs.Token.{Name}
use Rattle.tokens.specs.Written.{written_name, written_term, joined_by}
use Rattle.grammar.specs.Record.{Form, set, xor, mul, app, rand}

-- the word and the fields of a statement that gives the name n
unfoldable pub written_fields : Name → Form → List (List ℕ)
written_fields n (set a) = ascii "set" ∷ written_name n ∷ written_term a ∷ []
written_fields n (xor a b) = ascii "xor" ∷ written_name n ∷ written_term a ∷ written_term b ∷ []
written_fields n (mul a b) = ascii "mul" ∷ written_name n ∷ written_term a ∷ written_term b ∷ []
written_fields n (app f a) = ascii "app" ∷ written_name n ∷ written_name f ∷ written_term a ∷ []
written_fields n rand = ascii "rand" ∷ written_name n ∷ []

-- its line
unfoldable pub written_line : Name → Form → List ℕ
written_line n f = joined_by tab (written_fields n f)
