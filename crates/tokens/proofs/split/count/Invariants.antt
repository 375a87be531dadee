-- The invariant: the separators among the first bytes are counted, and one. Assumes nothing.
use Rattle.std.proofs.Common.{◌≡◌, ◌+◌, ◌≤◌, length, take}
use lib.Dec.{eqb}
use Rattle.std.specs.List.{filter}
use Rattle.tokens.proofs.split.count.Given as goal

abbrev pub invariant-loop-b : goal.invariant-loop-b
invariant-loop-b l =
    (l.n ≡ length (filter (λ b. eqb b l.sep) (take l.b-index l.s)) + 1) × (l.n ≤ l.b-index + 1)
