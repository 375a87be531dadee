-- How long a run of name bytes is. Assumes nothing.
use Prim.Native.Nat.{ℕ, ◌≤◌}
use mathlib.Core.Bool.{not}
use mathlib.Core.List.{List}
use lib.ListN.{length}
use Rattle.tokens.specs.Ascii.{is_name_byte}
use Rattle.tokens.specs.Token.{name_run}
use Rattle.tokens.proofs.Laws.Scan.{until_le}

-- a run of name bytes is no longer than the list
pub run_le : (s : List ℕ) → name_run s ≤ length s
unfolding name_run
run_le s = until_le (λ b. not (is_name_byte b)) s
