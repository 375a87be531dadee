-- The formula looked up, and an operand alone written as a `set`. Assumes nothing.
use native.Mathlib.Omega.{arith}
use mathlib.Core.Path.{refl}
use Rattle.lookup.specs.Names.{names_in}
use Rattle.lines.proofs.Laws.LetWriting.{let_looks, let_room, let_alone_lem, let_several}
use Rattle.lines.proofs.letting.write_let.Goals as goal

pub compile-r-requires : goal.compile-r-requires
compile-r-requires c =
    let h = c.args.here in
    let s = h.line.text.now in
    let t = h.table.now in
    let n = c.block_names-names in
    let p = c.part in
    rw c.set.ensures (
      let_looks _ t h.held.known c.args.f n.result (n.ensures s t) p.ensures refl refl h.held.sound c.requires.0,
      omega arith,
      let_room s t h.held.known c.args.f n.result (n.ensures s t) _ p.ensures c.requires.1,
    )

pub returns-then-r-eq0 : goal.returns-then-r-eq0
unfolding names_in
returns-then-r-eq0 c =
    let h = c.args.here in
    let n = c.block_names-names in
    let r = c.compile-r in
    let_alone_lem h.line.text.now h.table.now h.held.known c.args.f n.result (n.ensures h.line.text.now h.table.now) _
    c.part.ensures c.args.out.now _ _ r.result (rw c.set.ensures at r.ensures) c.if-r-eq0.true refl

pub returns : goal.returns
unfolding names_in
returns c =
    let h = c.args.here in
    let n = c.block_names-names in
    let r = c.compile-r in
    let_several h.line.text.now h.table.now h.held.known c.args.f n.result (n.ensures h.line.text.now h.table.now) _
    c.part.ensures c.args.out.now _ _ r.result (rw c.set.ensures at r.ensures) c.if-r-eq0.false refl
