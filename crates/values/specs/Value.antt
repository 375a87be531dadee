-- What forming the value of a statement asks. A term has w bytes.
-- Assumes nothing.
use Rattle.std.specs.Prelude.{ℕ, ◌+◌, ◌*◌, ◌≤◌, ◌<◌, List, length}
use Rattle.field.specs.Field.{Modulus}
use Rattle.values.specs.declared.found.Found.{Found}
use Rattle.values.specs.Load.{most_term_bytes}
use Rattle.values.specs.Found.{found_size, AllFit}

-- what a walk asks of its buffers, whatever the statement
pub record Workable (m : ℕ) (left right : List ℕ) (w : ℕ) : Type 0 where
  pub modulus : Modulus m
  pub some : 0 < w
  pub most : w ≤ most_term_bytes
  pub spare : 64 * w ≤ length right
  pub same : length left ≤ length right

-- the sources stand below term top, and there is room for the raw size of the statement from there on
pub record FormAsked (m : ℕ) (lists : List (List ℕ)) (constants : List ℕ) (found : Found)
    (left : List ℕ) (top : ℕ) (right : List ℕ) (w : ℕ) : Type 0 where
  pub work : Workable m left right w
  pub fits : AllFit w top found
  pub room : (top + found_size lists constants found) * w ≤ length left
