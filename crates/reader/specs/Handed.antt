-- What the code's answer at a place stands for in the text, and what the reader's functions give. Assumes nothing.
use Rattle.std.specs.Prelude.{ℕ, zero, suc, ◌+◌, ◌≡◌, Bool, true, false, List, ltb, length}
use Rattle.std.specs.Prelude.{Option, None as none, Some as some, Result, Ok, Err}
use Rattle.std.specs.Borrow.{Bor}
use Rattle.grammar.specs.declared.line.Line.{Line}
use Rattle.grammar.specs.declared.line.TextLine.{TextLine}
use Rattle.grammar.specs.declared.record.Rec.{Rec}
use Rattle.tokens.specs.declared.refusal.Refusal.{Refusal}
use Rattle.tokens.specs.Refusal.{number}
use Rattle.reader.specs.declared.cursor.Cursor.{Cursor}
use Rattle.reader.specs.declared.handed.Handed.{Handed}
use Rattle.reader.specs.declared.reader.Reader.{Reader}
use Rattle.tokens.specs.Limits.{most_depth}
use Rattle.tokens.specs.Token.{◌>>=◌, is_some}
use Rattle.grammar.specs.Line.{pieces_in}
use Rattle.grammar.specs.Formula.{Formula, depth}
use Rattle.grammar.specs.Recorded.{record_in, columns_of, formula_of, names_of}
use Rattle.reader.specs.Reader.{Given, given, refused, ended, line_given, last_given, record_ahead, place_behind}

-- what a record leaves in its line was read; ps are the pieces of its line
abbrev pub has_fields : List (List ℕ) → Rec → Bool
has_fields ps (Rec.Shares k) = true
has_fields ps (Rec.Map n c) = is_some (columns_of ps)
has_fields ps (Rec.Input n) = true
has_fields ps Rec.Origin = true
has_fields ps (Rec.Assign n f) = true
has_fields ps (Rec.Let n) = is_some (formula_of ps)
has_fields ps (Rec.Result n) = true
has_fields ps Rec.Masked = true
has_fields ps Rec.Output = is_some (names_of ps)

-- the formula nests above 8
abbrev pub deep : Option Formula → Bool
deep none = false
deep (some f) = ltb most_depth (depth f)

-- a record nests above 8; ps are the pieces of its line
abbrev pub nests_in : List (List ℕ) → Rec → Bool
nests_in ps (Rec.Shares k) = false
nests_in ps (Rec.Map n c) = false
nests_in ps (Rec.Input n) = false
nests_in ps Rec.Origin = false
nests_in ps (Rec.Assign n f) = false
nests_in ps (Rec.Let n) = deep (formula_of ps)
nests_in ps (Rec.Result n) = false
nests_in ps Rec.Masked = false
nests_in ps Rec.Output = false

-- what a record with its line, or a refusal, stands for in the text; c is behind the line; a record that was not read
-- whole stands for nothing
abbrev pub record_given : List ℕ → Cursor → Result (Line × Rec) Refusal → Option Given
record_given s c (Ok r) = record_in s (pieces_in s r.0) r.1 >>= λ x. some (given r.0 x c)
record_given s c (Err e) = some (refused (number e) c)

-- what the code's answer on a line stands for in the text
abbrev pub given_in : List ℕ → Handed → Option Given
given_in s r = record_given s r.behind r.record

-- what the code's answer at a place stands for in the text: none is the end
abbrev pub handed_in : List ℕ → Option Handed → Option Given
handed_in s none = some ended
handed_in s (some r) = given_in s r

-- the code's record of line l, which its line feed ends, or its refusal
abbrev pub RecordIs : TextLine → Result (Line × Rec) Refusal → Type 0
RecordIs l r = (c : Cursor) → record_given l.text.now c r ≡ some (line_given l.text.now l.line c)

-- the code's answer for line l, which its line feed ends; c is behind it
abbrev pub LineIs : TextLine → Cursor → Handed → Type 0
LineIs l c r = given_in l.text.now r ≡ some (line_given l.text.now l.line c)

-- the code's answer for line l, which lacks its line feed; n lines stand before it
abbrev pub LastIs : List ℕ → Line → ℕ → Handed → Type 0
LastIs s l n r = given_in s r ≡ some (last_given s l (record { at = length s; line = n + 1 }))

-- the code's answer is what is handed out at the place
abbrev pub HandedIs : List ℕ → ℕ → ℕ → Option Handed → Type 0
HandedIs s at line r = handed_in s r ≡ some (record_ahead s at line)

-- ---- the reader

-- the reader opened on a text
abbrev pub opened : Bor (List ℕ) → Reader
opened text = record { text = text; at = 0; line = 0 }

-- the reader behind what it hands out, on the same text
abbrev pub moved_on : Reader → Reader
moved_on r =
    let c = place_behind r.text.now r.at r.line in record { text = r.text; at = c.at; line = c.line }

-- the reader opened on a text, moved i times
unfoldable pub reader_at : Bor (List ℕ) → ℕ → Reader
reader_at text zero = opened text
reader_at text (suc i) = moved_on (reader_at text i)
