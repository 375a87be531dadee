-- A byte that differs tells the parts apart; where none does they are one. Assumes nothing.
use Rattle.std.proofs.Common.{◌≡◌, ◌-◌, length, List, ℕ, slice_index_or}
use Rattle.std.proofs.lemmas.List.{ext_get_or}
use Rattle.tokens.specs.Ascii.{same_bytes}
use Rattle.tokens.proofs.Laws.Numbered.{bytes_self, bytes-differ}
use mathlib.Core.Bool.{true}
use mathlib.Core.Path.{ap, sym, subst}
use native.Mathlib.Omega.{arith}
use native.Mathlib.Decide.{dec_le}
use Rattle.tokens.proofs.bytes.same.Goals as goal

pub returns-then-a-b : goal.returns-then-a-b
returns-then-a-b c = bytes-differ _ _ (λ e. c.if-a-b.true (ap (λ (s : List ℕ). length s) e))

pub returns-then-a-i : goal.returns-then-a-i
returns-then-a-i c =
    bytes-differ _ _ (λ e. c.if-a-i.true (ap (λ (s : List ℕ). slice_index_or s (c.loop-i.i - 1) 0) e))

pub loop-i-preserved : goal.loop-i-preserved
loop-i-preserved c k h m =
    elim (dec_le c.loop-i.i k) [
      | yes p ↦ c.loop-i.invariant k p m
      | no p ↦
          let e : c.loop-i.i - 1 ≡ k = omega arith in
          subst (λ (j : ℕ). slice_index_or c.args.a.now j 0 ≡ slice_index_or c.args.b.now j 0) e c.if-a-i.false
    ]

pub returns : goal.returns
returns c =
    let s = c.args in
    let one : s.a.now ≡ s.b.now =
    ext_get_or 0 s.a.now s.b.now c.if-a-b.false (λ k h. c.loop-i.invariant k (omega arith) h) in
    sym (subst (λ (t : List ℕ). same_bytes s.a.now t ≡ true) one (bytes_self s.a.now))
