-- Reading on from a place of a text: what a reader that stands there reads. Assumes nothing.
use Rattle.std.specs.Prelude.{ℕ, ◌≤◌, cond, List, ltb, length, drop}
use Rattle.tokens.specs.Ascii.{line_feed}
use Rattle.tokens.specs.Split.{pieces}
use Rattle.reader.specs.declared.cursor.Cursor.{Cursor}
use Rattle.reader.specs.declared.reader.Reader.{Reader}
use Rattle.reader.specs.Reader.{placed}
use Rattle.rules.specs.Limits.{most_bytes}
use Rattle.rules.specs.State.{start}
use Rattle.rules.specs.Read.{Reading, refused, take_lines}
use Rattle.text.specs.Reading.{Answer, ReadingIs}

-- what the lines from a place on give, the place brought within the text
abbrev pub lines_from : List ℕ → ℕ → ℕ → Reading
lines_from s at line =
    take_lines start (placed s at line).line (pieces line_feed (drop (placed s at line).at s))

-- Refusal 2, at line 0; or what the lines from a place on give.
unfoldable pub read_from : List ℕ → ℕ → ℕ → Reading
read_from s at line = cond (ltb most_bytes (length s)) (refused 2 0) (lines_from s at line)

-- the whole outcome of reading on from a reader
abbrev pub ReadsOn : Reader → Answer → Type 0
ReadsOn r d = ReadingIs d (read_from r.text.now r.at r.line)

-- the cursor stands in a text that is not too long
abbrev pub Stands : List ℕ → Cursor → Type 0
Stands s c = (c.at ≤ length s) × (c.line ≤ c.at) × (length s ≤ most_bytes)

-- the whole outcome of reading the lines from a cursor on
abbrev pub LinesAre : List ℕ → Cursor → Answer → Type 0
LinesAre s c r = ReadingIs r (take_lines start c.line (pieces line_feed (drop c.at s)))
