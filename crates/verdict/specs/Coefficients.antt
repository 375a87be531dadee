-- What coefficients answers, for every list of bytes (refusal 12).
-- Assumes nothing.
use Rattle.std.specs.Prelude.{◌≡◌, ℕ, cond, List, length, drop, replicate, ◌==◌}
use Rattle.field.specs.Maps.{coefficients_of}
use Rattle.verdict.specs.declared.report.MapReport.{MapReport}
use Rattle.verdict.specs.Instances.{low_byte}

-- a list of nine bytes is a map, its constant first; any other is refused with eight zeros
unfoldable pub map_report : List ℕ → MapReport
map_report list =
    cond (length list == 9)
    (record { coefficients = coefficients_of low_byte (drop 1 list); refusal = 0; line = 0 })
    (record { coefficients = replicate 8 0; refusal = 12; line = 0 })

-- the whole outcome of coefficients
pub record Found (list : List ℕ) (answer : MapReport) : Type 0 where
  pub answered : answer ≡ map_report list
