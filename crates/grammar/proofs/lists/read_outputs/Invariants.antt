-- The invariant: the first `j` names are read. Assumes nothing.
use Prim.Native.Nat.{◌+◌, ◌≤◌}
use Rattle.grammar.proofs.Laws.Each.{onto}
use Rattle.grammar.specs.Line.{name_in}
use Rattle.grammar.specs.TextLine.{pieces_of}
use Rattle.grammar.specs.Record.{each}
use Rattle.grammar.specs.Recorded.{names_of}
use Rattle.tokens.specs.Token.{read_name}
use lib.ListN.{length, take, drop}
use mathlib.Core.List.{map}
use mathlib.Core.Path.{◌≡◌}
use Rattle.grammar.proofs.lists.read_outputs.Given as goal

abbrev pub invariant-loop-j : goal.invariant-loop-j
invariant-loop-j l =
    (length l.items ≡ 8) × (l.count ≤ 8) × (length (pieces_of l.l) ≡ l.count + 1)
    × (names_of (pieces_of l.l) ≡ onto (map (name_in l.l.text.now) (take l.j l.items))
    (each read_name (drop (1 + l.j) (pieces_of l.l))))
