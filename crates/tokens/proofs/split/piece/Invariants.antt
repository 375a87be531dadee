-- The invariant: the piece that is looked for is the one that stands as many pieces on from `at` as are left to pass.
-- Assumes nothing.
use Prim.Native.Nat.{◌≤◌, ◌-◌}
use Rattle.tokens.specs.Split.{pieces}
use lib.ListN.{length, drop, get_or}
use mathlib.Core.List.{[]}
use mathlib.Core.Path.{◌≡◌}
use Rattle.tokens.proofs.split.piece.Given as goal

abbrev pub invariant-loop : goal.invariant-loop
invariant-loop l =
    (l.at ≤ length l.s)
    × (get_or (pieces l.sep l.s) l.k [] ≡ get_or (pieces l.sep (drop l.at l.s)) (l.k - l.counter) [])
