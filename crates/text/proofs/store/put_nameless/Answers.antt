-- The part of the table is filled. Assumes nothing.
use Prim.Native.Nat.{ℕ, ◌+◌, ◌-◌}
use native.Mathlib.Omega.{arith}
use mathlib.Core.List.{List, ◌++◌}
use mathlib.Core.Path.{◌≡◌, ap, ◌∙◌}
use lib.ListN.{take, replicate}
use Rattle.std.proofs.Common.{rules}
use Rattle.std.proofs.lemmas.List.{drop-drop}
use Rattle.grammar.specs.declared.line.NameRef.{NameRef}
use Rattle.lines.specs.Lets.{nameless}
use Rattle.text.proofs.Laws.Stored.{filled}
use borrow.Rule.Slice.PartMut.{put_mid}
use Rattle.text.proofs.store.put_nameless.Goals as goal

pub returns : goal.returns
returns c =
    let a = c.args in
    let size : a.at + a.n - a.at ≡ a.n = omega arith in
    let same : c.fill.new.self ≡ replicate (a.at + a.n - a.at) nameless = search rules in
    (λ i. put_mid a.at (size i) a.t.now (same i))
    ∙ ap (λ (k : ℕ). put_mid a.at a.n a.t.now (replicate k nameless)) size
    ∙ ap (λ (l : List NameRef). take a.at a.t.now ++ (replicate a.n nameless ++ l)) (drop-drop a.n a.at a.t.now)
    ∙ filled a.t.now a.at a.n (omega arith)
