-- Reading a text: the first faulty line from the top, and on it the first fault; or the routine that the text holds.
-- Assumes nothing.
use Rattle.std.specs.Prelude.{ℕ, zero, suc, ◌+◌, Bool, not, cond, List, [], ◌∷◌, ltb, eqb, length}
use Rattle.std.specs.Prelude.{Option, None as none, Some as some}
use Rattle.tokens.specs.declared.word.Word.{Word}
use Rattle.rules.specs.declared.types.Statement.{Statement}
use Rattle.rules.specs.declared.types.AffineMap.{AffineMap}
use Rattle.tokens.specs.Ascii.{all, allowed, tab, line_feed}
use Rattle.tokens.specs.Split.{pieces}
use Rattle.grammar.specs.Record.{Record, field, record_for, nests}
use Rattle.tokens.specs.Word.{word_of}
use Rattle.rules.specs.Limits.{most_bytes}
use Rattle.rules.specs.Order.{may_stand, stage_after, at_end}
use Rattle.rules.specs.State.{State, start}
use Rattle.rules.specs.Grown.{at_stage}
use Rattle.rules.specs.Faults.{repeats, reads_unknown, exceeds, miscounts}
use Rattle.rules.specs.Added.{added}

-- What an accepted text holds. A statement's place in its set follows those of the inputs, or of their shares, and of
-- the statements above it.
pub record Routine : Type 0 where
  pub shares : ℕ
  pub maps : List AffineMap
  pub inputs : ℕ
  pub variables : ℕ
  pub origin : List Statement
  pub result : ℕ
  pub masked : List Statement
  pub outputs : List ℕ
  pub output_line : ℕ

-- the answer for a text: a refusal's number and line, or the routine that it holds
pub data Reading : Type 0 where
  refused : ℕ → ℕ → Reading
  accepted : Routine → Reading

-- A fault's number, and whether the line has it.
abbrev pub Fault : Type 0
Fault = ℕ × Bool

-- the number of the first fault of a list that the line has, and 0 where it has none
unfoldable pub first_of : List Fault → ℕ
first_of [] = 0
first_of (f ∷ fs) = cond f.1 f.0 (first_of fs)

-- What one line leads to: a refusal's number, or what is known behind the line.
pub data Outcome : Type 0 where
  stop : ℕ → Outcome
  next : State → Outcome

-- a refusal where there is a number, or what is known behind the line
unfoldable pub unless : ℕ → State → Outcome
unless zero s = next s
unless (suc e) s = stop (suc e)

-- line n, whose word and fields make the record or none
unfoldable pub take_record : State → ℕ → Word → Option Record → Outcome
take_record s n w none = stop 5
take_record s n w (some r) =
    unless
    (first_of
    ((13, nests r)
    ∷ (6, not (may_stand w s.stage))
    ∷ (7, repeats s r)
    ∷ (8, reads_unknown s r)
    ∷ (9, exceeds s r)
    ∷ (10, miscounts s r)
    ∷ []))
    (at_stage (stage_after w s.stage) (added n r s))

-- line n, by its pieces
unfoldable pub take_pieces : State → ℕ → List (List ℕ) → Outcome
take_pieces s n ps = take_record s n (word_of (field 0 ps)) (record_for (word_of (field 0 ps)) ps)

-- line n, which its line feed ends
unfoldable pub take_line : State → ℕ → List ℕ → Outcome
take_line s n l = cond (all allowed l) (take_pieces s n (pieces tab l)) (stop 3)

-- the routine of a text that ended at line n
unfoldable pub routine : State → ℕ → Routine
routine s n =
    record {
      shares = s.shares;
      maps = s.maps;
      inputs = s.inputs;
      variables = s.variables;
      origin = s.origin.statements;
      result = s.result;
      masked = s.masked.statements;
      outputs = s.outputs;
      output_line = n;
    }

-- what stands behind the last line feed, at line n + 1: nothing, or a line that lacks its line feed
unfoldable pub take_last : State → ℕ → List ℕ → Reading
take_last s n [] = cond (eqb s.stage at_end) (accepted (routine s n)) (refused 6 (n + 1))
take_last s n (b ∷ l) = refused (cond (all allowed (b ∷ l)) 4 3) (n + 1)

-- what line n leads to: its refusal, or the rest of the text
unfoldable pub follow : Outcome → ℕ → (State → Reading) → Reading
follow (stop e) n rest = refused e n
follow (next t) n rest = rest t

-- the lines that follow line n
unfoldable pub take_lines : State → ℕ → List (List ℕ) → Reading
take_lines s n [] = refused 6 (n + 1)
take_lines s n (l ∷ []) = take_last s n l
take_lines s n (l ∷ m ∷ ls) = follow (take_line s (n + 1) l) (n + 1) (λ t. take_lines t (n + 1) (m ∷ ls))

-- Refusal 2, at line 0; or what the lines give.
unfoldable pub read_text : List ℕ → Reading
read_text s = cond (ltb most_bytes (length s)) (refused 2 0) (take_lines start 0 (pieces line_feed s))
