-- `print::line` meets its contract. Assumes nothing.
use mathlib.Core.Path.{ap, sym, ◌∙◌}
use Prim.Native.Nat.{ℕ}
use mathlib.Core.List.{List, [], ◌∷◌, append-nil}
use lib.ListN.{length, get_or}
use native.Mathlib.Omega.{arith}
use Rattle.print.proofs.Laws.Put.{put_as, put-join, put-length}
use Rattle.print.proofs.Laws.Line.{hexes-length, hexes-none, line-front, line-next, line-whole, line-length}
use Rattle.print.proofs.Laws.Line.{formed-short, formed-whole}
use Rattle.print.proofs.line.Goals as goal

pub returns-in_default : goal.returns-in_default
returns-in_default c =
    let whole = line-length c.args.report c.args.bytes.now in
    formed-short _ _ (omega (arith, whole, ap length c.head-head.ensures, c.in_default.ensures))

pub returns-then-room-bytes : goal.returns-then-room-bytes
returns-then-room-bytes c =
    let whole = line-length c.args.report c.args.bytes.now in
    formed-short _ _ (omega (arith, whole, ap length c.head-head.ensures, c.in-Some.ensures))

pub loop-byte-init : goal.loop-byte-init
loop-byte-init c =
    put_as (c.as_bytes.ensures.value ∙ c.as_str.ensures.value ∙ c.head-head.ensures ∙ sym (rw (hexes-none, append-nil)))
    c.put-at.ensures

pub put-at-requires-in-loop-byte : goal.put-at-requires-in-loop-byte
put-at-requires-in-loop-byte c =
    let bytes : List ℕ = c.args.bytes.now in
    let done = put-length c.loop-byte.invariant in
    omega (
      arith,
      done,
      c.in-Some.ensures,
      ap length c.head-head.ensures,
      ap length c.hex.ensures,
      hexes-length (get_or bytes c.loop-byte.byte-index 0 ∷ []),
      line-front c.args.report bytes c.loop-byte.byte-index (omega arith),
    )

pub loop-byte-preserved : goal.loop-byte-preserved
loop-byte-preserved c =
    put_as (line-next _ _ _ c.loop-byte-test.true c.hex.ensures)
    (put-join c.loop-byte.invariant c.put-at-in-loop-byte.ensures)

pub put-requires : goal.put-requires
put-requires c =
    let bytes : List ℕ = c.args.bytes.now in
    let done = put-length c.loop-byte.invariant in
    omega (
      arith,
      done,
      c.in-Some.ensures,
      ap length c.head-head.ensures,
      line-front c.args.report bytes c.loop-byte.byte-index (omega arith),
    )

pub returns : goal.returns
returns c =
    formed-whole (put_as (line-whole _ _ _ (omega arith)) (put-join c.loop-byte.invariant c.put.ensures))
