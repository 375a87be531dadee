-- Reading on from the start of a text is reading the text. Assumes nothing.
use Prim.Native.Nat.{ℕ}
use native.Mathlib.Omega.{arith}
use mathlib.Core.Path.{◌≡◌, ap, subst}
use mathlib.Core.Bool.{cond}
use mathlib.Core.List.{List}
use lib.Dec.{ltb}
use lib.ListN.{length, drop}
use denote.Ref.{Bor}
use Rattle.reader.specs.declared.cursor.Cursor.{Cursor}
use Rattle.reader.specs.declared.reader.Reader.{Reader}
use Rattle.reader.specs.Handed.{opened}
use Rattle.tokens.specs.Ascii.{line_feed}
use Rattle.tokens.specs.Split.{pieces}
use Rattle.reader.proofs.Laws.Handed.{placed_same}
use Rattle.rules.specs.Limits.{most_bytes}
use Rattle.rules.specs.State.{start}
use Rattle.rules.specs.Read.{Reading, refused, take_lines, read_text}
use Rattle.text.specs.Reading.{Answer, ReadingIs}
use Rattle.text.specs.From.{read_from, ReadsOn}

-- from the start on, the lines of a text give what the text gives
pub read-start : (s : List ℕ) → read_from s 0 0 ≡ read_text s
unfolding read_from read_text
read-start s =
    ap (λ (p : Cursor). cond (ltb most_bytes (length s)) (refused 2 0)
    (take_lines start p.line (pieces line_feed (drop p.at s))))
    (placed_same s (record { at = 0; line = 0 }) (omega arith) (omega arith))

-- a reader opened on a text reads what the text gives
pub opened-reads : (s : Bor (List ℕ)) (r : Reader) (d : Answer) → r ≡ opened s → ReadsOn r d
    → ReadingIs d (read_text s.now)
opened-reads s r d e R =
    subst (λ (x : Reading). ReadingIs d x) (read-start s.now) (subst (λ (q : Reader). ReadsOn q d) e R)
