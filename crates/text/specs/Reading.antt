-- What the code's reading stands for. Assumes nothing.
use Rattle.std.specs.Prelude.{ℕ, ◌+◌, ◌≤◌, ◌≡◌, cond, List, eqb, take, drop}
use Rattle.text.specs.declared.routine.Routine as code
use Rattle.text.specs.declared.accepted.Accepted.{Accepted}
use Rattle.text.specs.declared.read.Refused.{Refused}
use Rattle.std.specs.Prelude.{Result, Ok, Err, IfOk}
use Rattle.tokens.specs.Refusal.{number}
use Rattle.lines.specs.Stage.{stage_of}
use Rattle.rules.specs.Limits.{most_maps, most_inputs, most_variables, most_statements}
use Rattle.rules.specs.Read.{Reading, refused, accepted, routine}
use Rattle.rules.specs.Order.{at_end}
use Rattle.lines.specs.Known.{Kept, state_in}
use Rattle.grammar.specs.declared.line.Line.{Line}
use Rattle.tokens.specs.Ascii.{all, allowed}
use Rattle.text.specs.Routine.{routine_of}
use Rattle.tokens.specs.Limits.{most_shares}

-- a reading of the code: the routine of an accepted text, or the refusal and its line
abbrev pub Answer : Type 0
Answer = Result code.Routine Refused

-- the same from what `read` gives
abbrev pub answer_of : Result Accepted Refused → Answer
answer_of (Ok a) = Ok a.routine
answer_of (Err d) = Err d

-- what it stands for
abbrev pub reading_of : Answer → Reading
reading_of (Ok r) = accepted (routine_of r)
reading_of (Err d) = refused (number d.refusal) d.line

-- the number of its refusal, and 0 where the text is accepted
abbrev pub number_in : Answer → ℕ
number_in (Ok r) = 0
number_in (Err d) = number d.refusal

-- the line of its refusal, and 0 where the text is accepted
abbrev pub line_in : Answer → ℕ
line_in (Ok r) = 0
line_in (Err d) = d.line

-- the refusal's number of an answer, and 0 where the text is accepted
unfoldable pub refusal_of : Reading → ℕ
refusal_of (refused e n) = e
refusal_of (accepted r) = 0

-- the refusal's line of an answer, and 0 where the text is accepted
unfoldable pub line_of : Reading → ℕ
line_of (refused e n) = n
line_of (accepted r) = 0

-- the counts of a routine are within their limits
pub record Held (r : code.Routine) : Type 0 where
  pub mapped : r.mapped ≤ most_maps
  pub inputs : r.inputs ≤ most_inputs
  pub variables : r.variables ≤ most_variables
  pub statements : r.origin + r.masked ≤ most_statements
  pub named : r.named ≤ most_shares

-- the whole outcome of a reading
pub record ReadingIs (r : Answer) (x : Reading) : Type 0 where
  pub answer : reading_of r ≡ x
  pub held : IfOk r Held

-- the reading of a text that ends behind line n
abbrev pub EndIs : List ℕ → Kept → ℕ → Answer → Type 0
EndIs s h n r =
    ReadingIs r (cond (eqb (stage_of h.known.stage) at_end) (accepted (routine (state_in s h) n)) (refused 6 (n + 1)))

-- the reading of a text whose last line lacks its line feed, behind n lines
abbrev pub UnendedIs : List ℕ → Line → ℕ → Answer → Type 0
UnendedIs s l n r =
    ReadingIs r (refused (cond (all allowed (take l.len (drop l.from s))) 4 3) (n + 1))
