-- The invariant: no more are counted than were passed. Assumes nothing.
use Rattle.std.proofs.Common.{◌≤◌}
use Rattle.vectors.proofs.lists.unchanged.Given as goal

abbrev pub invariant-loop-byte : goal.invariant-loop-byte
invariant-loop-byte l = l.n ≤ l.byte-index
