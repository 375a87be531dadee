-- What looking for a variable among the terms of a buffer asks.
-- Assumes nothing.
use Rattle.std.specs.Prelude.{ℕ, ◌*◌, ◌≤◌, ◌<◌, List, length}

-- b has k terms of w bytes, each with n powers at least
pub record Holding (b : List ℕ) (k w n : ℕ) : Type 0 where
  pub powers : n < w
  pub room : k * w ≤ length b
