-- A line of a text: its bytes, its pieces, and each of them. Assumes nothing.
use Rattle.std.specs.Prelude.{ℕ, List, take, drop}
use Rattle.grammar.specs.declared.line.TextLine.{TextLine}
use Rattle.grammar.specs.Line.{pieces_in, field_in}

-- the bytes of a line of a text
abbrev pub bytes_of : TextLine → List ℕ
bytes_of l = take l.line.len (drop l.line.from l.text.now)

-- its word and its fields
abbrev pub pieces_of : TextLine → List (List ℕ)
pieces_of l = pieces_in l.text.now l.line

-- its piece k: the word is piece 0, the first field after it piece 1
abbrev pub piece_of : TextLine → ℕ → List ℕ
piece_of l k = field_in l.text.now l.line k
