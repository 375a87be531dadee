-- A part of a formula's field, looked up where it stands in the text. Assumes nothing.
use Prim.Native.Nat.{ℕ, zero, suc, ◌+◌, ◌-◌, ◌≤◌}
use mathlib.Core.Path.{◌≡◌, refl, sym, ap, ◌∙◌}
use mathlib.Core.List.{List, [], ◌∷◌}
use native.Mathlib.Omega.{arith}
use lib.ListN.{length, take, drop, length-drop}
use lib.Seq.{drop-drop, take-take}
use Rattle.tokens.specs.Ascii.{is_mark}
use Rattle.tokens.specs.Split.{until}
use Rattle.tokens.proofs.Laws.Scan.{until_le}
use Rattle.grammar.specs.Formula.{front}
use Rattle.lookup.specs.declared.compile.Lookup.{Lookup}
use Rattle.lookup.specs.Compiled.{Looks}

part-front : (a m n : ℕ) (t : List ℕ) → a + m ≤ n → take m (drop a (take n t)) ≡ take m (drop a t)
part-front zero m n t h = take-take m n t (omega arith)
part-front (suc a) m zero t h = absurd (omega arith)
part-front (suc a) m (suc n) [] h = refl
part-front (suc a) m (suc n) (x ∷ t) h = part-front a m n t (omega arith)

part-here : (w : Lookup) → Looks w → (at len : ℕ) → at + len ≤ length w.field.now
    → take len (drop (w.from + at) w.set.text.now) ≡ take len (drop at w.field.now)
part-here w L at len h =
    ap (take len) (sym (drop-drop at w.from w.set.text.now))
    ∙ sym (part-front at len (length w.field.now) (drop w.from w.set.text.now) h)
    ∙ ap (λ (u : List ℕ). take len (drop at u)) (sym L.field)

-- the operand from a place of the field to the mark
pub term-looked : (w : Lookup) (at mark : ℕ) → Looks w → at ≤ mark → mark ≤ length w.field.now
    → take (mark - at) (drop (w.from + at) w.set.text.now) ≡ take (mark - at) (drop at w.field.now)
term-looked w at mark L h m = part-here w L at (mark - at) (omega arith)

-- the name of a map from a place of the field to the first mark
pub map-looked : (w : Lookup) (at mark : ℕ) → Looks w → at ≤ length w.field.now
    → mark ≡ at + until is_mark (drop at w.field.now)
    → take (mark - at) (drop (w.from + at) w.set.text.now) ≡ front (drop at w.field.now)
map-looked w at mark L h e =
    let f = w.field.now in
    let inside : mark ≤ length f = omega (arith, until_le is_mark (drop at f), length-drop at f) in
    let long : mark - at ≡ until is_mark (drop at f) = omega arith in
    part-here w L at (mark - at) (omega arith) ∙ ap (λ (i : ℕ). take i (drop at f)) long
