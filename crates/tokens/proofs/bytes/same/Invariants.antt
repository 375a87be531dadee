-- The invariant: from place `i` on the bytes agree. Assumes nothing.
use Rattle.std.proofs.Common.{◌≡◌, ◌≤◌, ◌<◌, length, ℕ, slice_index_or}
use Rattle.tokens.proofs.bytes.same.Given as goal

abbrev pub invariant-loop-i : goal.invariant-loop-i
invariant-loop-i l = (k : ℕ) → l.i ≤ k → k < length l.a → slice_index_or l.a k 0 ≡ slice_index_or l.b k 0
