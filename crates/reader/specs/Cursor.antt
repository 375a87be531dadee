-- The line ahead of a cursor. Assumes nothing.
use Rattle.std.specs.Prelude.{ℕ, ◌+◌, ◌-◌, cond, List, ltb, length, drop}
use Rattle.reader.specs.declared.cursor.Cursor.{Cursor}
use Rattle.reader.specs.declared.cursor.Ahead.{Ahead}
use Rattle.tokens.specs.Ascii.{line_feed}
use Rattle.tokens.specs.Split.{before}

-- where the line ahead ends: at its line feed, or at the text's end
unfoldable pub line_end : List ℕ → ℕ → ℕ
line_end s at = at + before line_feed (drop at s)

-- the line ahead: one that its line feed ends, with the cursor behind it; one that lacks it; or none
unfoldable pub look_at : List ℕ → Cursor → Ahead
look_at s c =
    cond (ltb (line_end s c.at) (length s))
    (Ahead.Line (record { from = c.at; len = line_end s c.at - c.at })
    (record { at = line_end s c.at + 1; line = c.line + 1 }))
    (cond (ltb c.at (length s)) (Ahead.Unended (record { from = c.at; len = length s - c.at })) Ahead.End)
