-- `print::line`: the head stands in out, and the bytes before this one behind it.
use mathlib.Core.List.{◌++◌}
use lib.ListN.{take}
use Rattle.verdict.specs.Print.{hexes}
use Rattle.print.specs.Line.{head_of, Put}
use Rattle.print.proofs.line.Given as goal

abbrev pub invariant-loop-byte : goal.invariant-loop-byte
invariant-loop-byte l =
    Put l.fn.out 0 (head_of l.fn.report ++ hexes (take l.byte-index l.bytes)) l.at l.out
