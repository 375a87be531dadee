use Prim.Native.Nat.{suc, ◌+◌}
use mathlib.Core.List.{List}
use Rattle.grammar.specs.declared.line.NameRef.{NameRef}
use Rattle.lookup.specs.Names.{put, put_shares}
use mathlib.Core.Path.{◌≡◌, refl, ap, ◌∙◌}
use native.Mathlib.Omega.{arith}
use Rattle.lookup.proofs.table.put_shares.Goals as goal

pub loop-i-init : goal.loop-i-init
unfolding put_shares
loop-i-init c = refl

pub loop-i-preserved : goal.loop-i-preserved
unfolding put_shares
loop-i-preserved c =
    let L = c.loop-i in
    let a = c.args in
    let x = a.x in
    let next : suc L.i ≡ L.i + 1 = omega arith in
    ap (λ (t : List NameRef). put t (a.at + L.i) (record { at = x.at; len = x.len; part = L.i })) L.invariant
    ∙ ap (put_shares a.t.now a.at x) next
