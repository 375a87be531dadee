-- Reading a line goes by what the reader hands out for it: a refusal 3, 5 or 13 stops it, a record is taken.
-- Assumes nothing.
use Prim.Native.Nat.{ℕ}
use mathlib.Core.Path.{◌≡◌, refl}
use mathlib.Core.Bool.{Bool, true, false, cond}
use mathlib.Core.List.{List}
use Rattle.std.specs.Prelude.{Option, None as none, Some as some}
use Rattle.grammar.specs.declared.line.Line.{Line}
use Rattle.tokens.specs.declared.word.Word.{Word}
use Rattle.reader.specs.declared.cursor.Cursor.{Cursor}
use Rattle.tokens.specs.Ascii.{all, allowed}
use Rattle.grammar.specs.Line.{pieces_in, field_in}
use Rattle.grammar.specs.Record.{Record, record_for, nests}
use Rattle.tokens.specs.Word.{word_of}
use Rattle.reader.specs.Reader.{Given, given, refused, ended, formed, bytes_of, line_given}
use Rattle.rules.specs.State.{State}
use Rattle.rules.specs.Read.{Outcome, stop, first_of, unless, take_record, take_pieces, take_line}

-- what a line of the word w leads to, by what is handed out for it
abbrev pub take_given : State → ℕ → Word → Given → Outcome
take_given st n w (given l r c) = take_record st n w (some r)
take_given st n w (refused e c) = stop e
take_given st n w ended = stop 0

formed-taken : (st : State) (n : ℕ) (w : Word) (l : Line) (c : Cursor) (o : Option Record)
    → take_record st n w o ≡ take_given st n w (formed l c o)
unfolding take_record first_of unless
formed-taken st n w l c none = refl
formed-taken st n w l c (some r) = go (nests r) refl
  where
    go : (b : Bool) → nests r ≡ b
        → take_record st n w (some r) ≡ take_given st n w (cond b (refused 13 c) (given l r c))
    go true e = rw e
    go false e = refl

-- a line that its line feed ends leads to what its handed out record or refusal leads to
pub given-taken : (st : State) (n : ℕ) (s : List ℕ) (l : Line) (c : Cursor)
    → take_line st n (bytes_of s l) ≡ take_given st n (word_of (field_in s l 0)) (line_given s l c)
unfolding take_line take_pieces line_given pieces_in
given-taken st n s l c = go (all allowed (bytes_of s l))
  where
    w : Word
    w = word_of (field_in s l 0)

    go : (b : Bool) → cond b (take_pieces st n (pieces_in s l)) (stop 3)
        ≡ take_given st n w (cond b (formed l c (record_for w (pieces_in s l))) (refused 3 c))
    go true = formed-taken st n w l c (record_for w (pieces_in s l))
    go false = refl
