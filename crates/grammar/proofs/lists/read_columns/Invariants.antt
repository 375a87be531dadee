-- The invariant: the first `j` columns are read. Assumes nothing.
use Prim.Native.Nat.{◌+◌}
use Rattle.grammar.proofs.Laws.Each.{onto}
use Rattle.grammar.specs.TextLine.{pieces_of}
use Rattle.grammar.specs.Record.{each}
use Rattle.grammar.specs.Recorded.{columns_of}
use Rattle.tokens.specs.Token.{read_hex}
use lib.ListN.{length, take, drop}
use mathlib.Core.Path.{◌≡◌}
use Rattle.grammar.proofs.lists.read_columns.Given as goal

abbrev pub invariant-loop-j : goal.invariant-loop-j
invariant-loop-j l =
    (length l.bytes ≡ 8) × (length (pieces_of l.l) ≡ 11)
    × (columns_of (pieces_of l.l) ≡ onto (take l.j l.bytes) (each read_hex (drop (3 + l.j) (pieces_of l.l))))
