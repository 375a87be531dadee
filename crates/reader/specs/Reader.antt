-- "a reader opened on a text hands out one record at a time": what it hands out at each place of a text, and where it
-- stands then. Assumes nothing.
use Rattle.std.specs.Prelude.{ℕ, zero, suc, ◌+◌, min, cond, List, length, take, drop}
use Rattle.std.specs.Prelude.{Option, None as none, Some as some}
use Rattle.grammar.specs.declared.line.Line.{Line}
use Rattle.reader.specs.declared.cursor.Cursor.{Cursor}
use Rattle.reader.specs.declared.cursor.Ahead.{Ahead}
use Rattle.tokens.specs.Ascii.{all, allowed}
use Rattle.grammar.specs.Line.{pieces_in, field_in}
use Rattle.grammar.specs.Record.{Record, record_for, nests}
use Rattle.tokens.specs.Word.{word_of}
use Rattle.reader.specs.Cursor.{look_at}

-- ---- places

-- a place brought within the text: not past its end, and with no more lines before it than bytes
unfoldable pub placed : List ℕ → ℕ → ℕ → Cursor
placed s at line = record { at = min at (length s); line = min line (min at (length s)) }

-- ---- what is handed out

-- What a reader hands out: a record with its line, or a refusal's number, each with the place behind the line; or the
-- end. The number of the line is the number of lines before the place behind it.
pub data Given : Type 0 where
  given : Line → Record → Cursor → Given
  refused : ℕ → Cursor → Given
  ended : Given

-- the record of line l, or refusal 5 where it makes none, or 13 where it nests above 8; c is behind it
abbrev pub formed : Line → Cursor → Option Record → Given
formed l c none = refused 5 c
formed l c (some r) = cond (nests r) (refused 13 c) (given l r c)

-- the bytes of a line
abbrev pub bytes_of : List ℕ → Line → List ℕ
bytes_of s l = take l.len (drop l.from s)

-- line l, which its line feed ends; c is behind it
unfoldable pub line_given : List ℕ → Line → Cursor → Given
line_given s l c =
    cond (all allowed (bytes_of s l))
    (formed l c (record_for (word_of (field_in s l 0)) (pieces_in s l)))
    (refused 3 c)

-- line l, which lacks its line feed; c is behind it
unfoldable pub last_given : List ℕ → Line → Cursor → Given
last_given s l c = refused (cond (all allowed (bytes_of s l)) 4 3) c

-- what stands ahead of place p
abbrev pub ahead_given : List ℕ → Cursor → Ahead → Given
ahead_given s p (Ahead.Line l c) = line_given s l c
ahead_given s p (Ahead.Unended l) = last_given s l (record { at = length s; line = p.line + 1 })
ahead_given s p Ahead.End = ended

-- what is handed out at any place of any text
unfoldable pub record_ahead : List ℕ → ℕ → ℕ → Given
record_ahead s at line = ahead_given s (placed s at line) (look_at s (placed s at line))

-- the place behind what was handed out at place p; at the end it stays
abbrev pub behind_of : Cursor → Given → Cursor
behind_of p (given l r c) = c
behind_of p (refused e c) = c
behind_of p ended = p

-- the place behind what is handed out at any place of any text
unfoldable pub place_behind : List ℕ → ℕ → ℕ → Cursor
place_behind s at line = behind_of (placed s at line) (record_ahead s at line)

-- ---- one after the other

-- the place where a reader opened on a text stands when it has been moved i times
unfoldable pub place_at : List ℕ → ℕ → Cursor
place_at s zero = record { at = 0; line = 0 }
place_at s (suc i) = let p = place_at s i in place_behind s p.at p.line

-- what a reader opened on a text hands out when it has been moved i times
unfoldable pub handed_at : List ℕ → ℕ → Given
handed_at s i = record_ahead s (place_at s i).at (place_at s i).line
