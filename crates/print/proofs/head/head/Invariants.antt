-- `print::head::head`: the word and the numbers before this one are written.
use Prim.Native.Nat.{◌≤◌, ◌+◌, ◌*◌}
use mathlib.Core.Path.{◌≡◌}
use mathlib.Core.List.{◌++◌}
use lib.ListN.{length, take}
use Rattle.verdict.specs.Print.{word}
use Rattle.print.proofs.Laws.Head.{tabbed}
use Rattle.print.proofs.head.head.Given as goal

abbrev pub invariant-loop-n : goal.invariant-loop-n
invariant-loop-n l = record {
  text : l.head.bytes ≡ word l.fn.report.verdict ++ tabbed (take l.n-index l.n-items);
  room : length l.head.bytes ≤ 7 + 21 * l.n-index;
}
