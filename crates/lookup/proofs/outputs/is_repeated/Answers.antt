use Rattle.tokens.specs.Token.{Name}
use Rattle.grammar.specs.Line.{name_in}
use Rattle.grammar.specs.Recorded.{names_read}
use Rattle.rules.specs.Scope.{given, repeated, repeated_in}
use Rattle.rules.proofs.Laws.Listing.{repeated-pass, repeated_hit, repeated-done}
use Rattle.lookup.specs.Names.{nowhere}
use Rattle.lookup.proofs.Laws.Named.{read_length, read_at}
use Rattle.lookup.proofs.Laws.Placing.{seen_given}
use Rattle.std.proofs.lemmas.List.{take_more}
use native.Mathlib.Omega.{arith}
use Prim.Native.Nat.{◌+◌}
use mathlib.Core.Path.{refl, ap, sym, ◌∙◌}
use mathlib.Core.List.{List}
use lib.ListN.{take, drop}
use Rattle.lookup.proofs.outputs.is_repeated.Goals as goal

pub loop-i-init : goal.loop-i-init
unfolding repeated
loop-i-init c = refl

pub returns-then-is_some : goal.returns-then-is_some
returns-then-is_some c =
    let s = c.args.s.now in
    let o = c.args.o in
    let ns = names_read s o in
    let long = read_length s o (omega arith) in
    let L = c.loop-i in
    let i = L.i in
    let seen = take i ns in
    let told = ap (λ (x : Name). given x seen) (read_at s o (omega arith) i (omega arith))
    ∙ sym (seen_given s o i (omega arith) _ c.place.ensures) ∙ sym c.is_some.ensures ∙ c.if-is_some.true in
    repeated_hit (name_in s nowhere) ns i seen L.invariant (omega arith) told

pub loop-i-preserved : goal.loop-i-preserved
loop-i-preserved c =
    let s = c.args.s.now in
    let o = c.args.o in
    let ns = names_read s o in
    let long = read_length s o (omega arith) in
    let L = c.loop-i in
    let i = L.i in
    let seen = take i ns in
    let told = ap (λ (x : Name). given x seen) (read_at s o (omega arith) i (omega arith))
    ∙ sym (seen_given s o i (omega arith) _ c.place.ensures) ∙ sym c.is_some.ensures ∙ c.if-is_some.false in
    repeated-pass (name_in s nowhere) ns i seen L.invariant (omega arith) told
    ∙ ap (λ (ms : List Name). repeated_in ms (drop (i + 1) ns))
    (sym (take_more ns i (name_in s nowhere) (omega arith)))

pub returns : goal.returns
returns c =
    let s = c.args.s.now in
    let o = c.args.o in
    let ns = names_read s o in
    let long = read_length s o (omega arith) in
    let L = c.loop-i in
    repeated-done (name_in s nowhere) ns L.i (take L.i ns) L.invariant (omega arith)
