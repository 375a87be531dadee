-- The invariant: no piece before place `at` has the bytes, and k of them stand there. Assumes nothing.
use Prim.Native.Nat.{◌≤◌, ◌-◌, ◌+◌}
use Rattle.tokens.specs.Ascii.{same_bytes}
use Rattle.tokens.specs.Split.{until, pieces}
use lib.ListN.{length, drop}
use mathlib.Core.Path.{◌≡◌}
use Rattle.tokens.proofs.split.piece_of.Given as goal

abbrev pub invariant-loop-sep : goal.invariant-loop-sep
invariant-loop-sep l =
    (l.at ≤ length l.s) × (l.k ≤ l.at)
    × (until (same_bytes l.f) (pieces l.sep l.s) ≡ l.k + until (same_bytes l.f) (pieces l.sep (drop l.at l.s)))

abbrev pub decreases-loop-sep : goal.decreases-loop-sep
decreases-loop-sep l = length l.s - l.at
