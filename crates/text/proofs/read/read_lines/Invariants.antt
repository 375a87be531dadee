-- The reading is that of the lines left, from what is held. Assumes nothing.
use Rattle.tokens.specs.Ascii.{line_feed}
use Rattle.tokens.specs.Split.{pieces}
use Rattle.lines.specs.Known.{arrays, kept, state_in, Sized}
use Rattle.rules.specs.Limits.{most_statements}
use Rattle.rules.specs.State.{start}
use Rattle.rules.specs.Read.{take_lines}
use Prim.Native.Nat.{◌≤◌, ◌-◌}
use mathlib.Core.Path.{◌≡◌}
use lib.ListN.{length, drop}
use Rattle.text.proofs.read.read_lines.Given as goal

abbrev pub invariant-loop-l : goal.invariant-loop-l
invariant-loop-l l =
    let h = kept l.table l.h.known (arrays l.maps l.statements) in
    (l.c.at ≤ length l.s) × (l.c.line ≤ l.c.at) × (length l.s ≤ 16384) × Sized h
    × (length l.ops ≡ most_statements)
    × (take_lines start l.initial.c.line (pieces line_feed (drop l.initial.c.at l.s))
    ≡ take_lines (state_in l.s h) l.c.line (pieces line_feed (drop l.c.at l.s)))

abbrev pub decreases-loop-l : goal.decreases-loop-l
decreases-loop-l l = length l.s - l.c.at
