-- The invariant: none of the first i names stands before its place. Assumes nothing.
use Rattle.grammar.specs.Recorded.{names_read}
use Rattle.rules.specs.Scope.{repeated, repeated_in}
use mathlib.Core.Path.{◌≡◌}
use lib.ListN.{take, drop}
use Rattle.lookup.proofs.outputs.is_repeated.Given as goal

abbrev pub invariant-loop-i : goal.invariant-loop-i
invariant-loop-i l =
    let ns = names_read l.s l.fn.o in
    repeated ns ≡ repeated_in (take l.i ns) (drop l.i ns)
