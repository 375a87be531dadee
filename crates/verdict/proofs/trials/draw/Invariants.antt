-- The invariant: the bytes are the first and those that are still to come from n. Assumes nothing.
use Rattle.std.proofs.Common.{◌≡◌, ◌-◌, ◌++◌, length, take}
use Rattle.verdict.specs.Trials.{trial_bytes, number_after}
use Rattle.verdict.proofs.trials.draw.Given as goal

abbrev pub invariant-loop-byte : goal.invariant-loop-byte
invariant-loop-byte l =
    (length l.byte-items ≡ l.v)
    × (trial_bytes l.v l.number ≡ take l.byte-index l.byte-items ++ trial_bytes (l.v - l.byte-index) l.n)
    × (number_after l.v l.number ≡ number_after (l.v - l.byte-index) l.n)
