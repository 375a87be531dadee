-- What forming a statement's value at the end of the first work buffer asks and leaves. A term has w bytes.
-- Assumes nothing.
use Rattle.std.specs.Prelude.{◌≡◌, ℕ, List, length}
use Rattle.values.specs.declared.source.Source.{Source}
use Rattle.values.specs.Shelf.{terms_at}
use Rattle.values.specs.Source.{source_of, source_size}
use Rattle.values.specs.Load.{LoadAsked}

-- right has room for what is found at a, and behind it for what is found at b
pub record PairAsked (left : List ℕ) (a b : Source) (right : List ℕ) (w : ℕ) : Type 0 where
  pub first : LoadAsked left a right 0 w
  pub second : LoadAsked left b right (source_size a) w

-- both are laid there
pub record Paired (w : ℕ) (left : List ℕ) (a b : Source) (right right' : List ℕ) : Type 0 where
  pub size : length right' ≡ length right
  pub first : terms_at w right' 0 (source_size a) ≡ source_of w left a
  pub second : terms_at w right' (source_size a) (source_size b) ≡ source_of w left b
