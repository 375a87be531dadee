-- What run answers, for every text and every list of bytes (refusals 2 to 11).
-- Assumes nothing.
use Rattle.std.specs.Prelude.{◌≡◌, ℕ, cond, List, length, ◌==◌}
use Rattle.rules.specs.Read.{Routine, Reading, read_text}
use Rattle.verdict.specs.declared.report.RunReport.{RunReport}
use Rattle.verdict.specs.Meaning.{Trace, trace, result_in, joined_in}
use Rattle.verdict.specs.Instances.{bytes_of}

-- all values of a routine, on a byte for each variable
unfoldable pub run_values : Routine → List ℕ → Trace ℕ
run_values r xs = trace (bytes_of r) r xs

-- the original's result on these bytes
unfoldable pub result_at : Routine → List ℕ → ℕ
result_at r xs = result_in (bytes_of r) r (run_values r xs).origin

-- the XOR of the output shares on these bytes
unfoldable pub joined_at : Routine → List ℕ → ℕ
joined_at r xs = joined_in (bytes_of r) r (run_values r xs)

-- a refused run gives 0 for both bytes
unfoldable pub run_refused : ℕ → ℕ → RunReport
run_refused number line = record { original = 0; joined = 0; refusal = number; line = line }

-- an accepted text, on these bytes: refusal 11 where they are not one for each variable
unfoldable pub run_routine : Routine → List ℕ → RunReport
run_routine r xs =
    cond (length xs == r.variables)
    (record { original = result_at r xs; joined = joined_at r xs; refusal = 0; line = 0 })
    (run_refused 11 0)

-- what a reading gave, on these bytes: its refusal, or its routine
unfoldable pub run_reading : Reading → List ℕ → RunReport
run_reading (Reading.refused number line) xs = run_refused number line
run_reading (Reading.accepted r) xs = run_routine r xs

-- the whole outcome of run; it is lent nothing that it could change
pub record Ran (text xs : List ℕ) (answer : RunReport) : Type 0 where
  pub answered : answer ≡ run_reading (read_text text) xs
