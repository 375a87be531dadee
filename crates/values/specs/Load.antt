-- What laying terms in a work buffer asks. A term has w bytes; places are counted in terms.
-- Assumes nothing.
use Rattle.std.specs.Prelude.{ℕ, ◌+◌, ◌*◌, ◌≤◌, ◌<◌, List, length}
use Rattle.values.specs.declared.source.Source.{Source}
use Rattle.values.specs.Source.{source_size, Fits}

-- the most bytes of a term: its coefficient and 24 powers
abbrev pub most_term_bytes : ℕ
most_term_bytes = 25

-- b has room for k terms from term `at` on
pub record LayAsked (b : List ℕ) (at k w : ℕ) : Type 0 where
  pub some : 0 < w
  pub most : w ≤ most_term_bytes
  pub room : (at + k) * w ≤ length b

-- what is found at s stands in left, and right has room for it
pub record LoadAsked (left : List ℕ) (s : Source) (right : List ℕ) (at w : ℕ) : Type 0 where
  pub top : ℕ
  pub held : top * w ≤ length left
  pub fits : Fits w top s
  pub asked : LayAsked right at (source_size s) w
