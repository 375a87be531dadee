-- Pieces put one behind the other: two of them are one put of both. It turns on `put-join`.
-- Assumes nothing.
use mathlib.Core.Path.{◌≡◌, refl, ap, sym, ◌∙◌, subst}
use Prim.Native.Nat.{ℕ, ◌+◌, ◌-◌, ◌≤◌}
use native.Mathlib.Omega.{arith}
use native.Mathlib.Nat.{add_assoc}
use mathlib.Core.List.{List, ◌++◌, append_assoc}
use lib.ListN.{length, take, drop, length-append, length-drop}
use lib.Seq.{length-take-le, take_all, take_at, drop_at, drop-drop}
use borrow.Rule.Slice.PartMut.{put_mid}
use Rattle.std.proofs.lemmas.Slice.{put_mid-paste}
use Rattle.print.specs.Line.{written, Put}

-- what stands before the place and the piece, together
length_front : (o : List ℕ) (at : ℕ) (p : List ℕ) → at ≤ length o → length (take at o ++ p) ≡ at + length p
length_front o at p h = length-append (take at o) p ∙ ap (λ (k : ℕ). k + length p) (length-take-le at o h)

-- a piece that fits leaves the buffer's length
pub written-length : (o : List ℕ) (at : ℕ) (p : List ℕ) → at + length p ≤ length o → length (written o at p) ≡ length o
unfolding written
written-length o at p h =
    let f : length (take at o ++ p) ≡ at + length p = length_front o at p (omega arith) in
    omega (arith, f, length-append (take at o ++ p) (drop (at + length p) o), length-drop (at + length p) o)

-- bytes copied over a part
pub put_part : (o : List ℕ) (at : ℕ) (p : List ℕ) {w : List ℕ} → w ≡ p → at + length p ≤ length o
    → Put o at p (at + length p) (put_mid at (at + length p - at) o w)
unfolding written
put_part o at p {w} e h =
    record {
      fits = h;
      moved = refl;
      placed = put_mid-paste at (at + length p - at) o w p (length p) e (omega arith) refl
          ∙ ap (λ (l : List ℕ). take at o ++ l ++ drop (at + length p) o) (take_all (length p) p (omega arith));
    }

-- what stands before the place behind a piece
take-written : (o : List ℕ) (at : ℕ) (p : List ℕ) → at ≤ length o
    → take (at + length p) (written o at p) ≡ take at o ++ p
unfolding written
take-written o at p h = take_at (take at o ++ p) (drop (at + length p) o) (at + length p) (length_front o at p h)

-- what stands behind a piece
drop-written : (o : List ℕ) (at : ℕ) (p : List ℕ) → at ≤ length o
    → drop (at + length p) (written o at p) ≡ drop (at + length p) o
unfolding written
drop-written o at p h = drop_at (take at o ++ p) (drop (at + length p) o) (at + length p) (length_front o at p h)

-- two pieces, the second behind the first, are both of them
written-join : (o : List ℕ) (at : ℕ) (p q : List ℕ) → at + length p ≤ length o
    → written (written o at p) (at + length p) q ≡ written o at (p ++ q)
unfolding written
written-join o at p q h =
    let b : take (at + length p) (written o at p) ≡ take at o ++ p = take-written o at p (omega arith) in
    let d : drop (at + length p) (written o at p) ≡ drop (at + length p) o = drop-written o at p (omega arith) in
    ap (λ (l : List ℕ). l ++ q ++ drop (at + length p + length q) (written o at p)) b
    ∙ ap (λ (l : List ℕ). take at o ++ p ++ q ++ l)
    (sym (drop-drop (length q) (at + length p) (written o at p)) ∙ ap (drop (length q)) d
    ∙ drop-drop (length q) (at + length p) o)
    ∙ simp (append_assoc, length-append, add_assoc)

-- two pieces put one behind the other are one piece
pub put-join : {o x y p q : List ℕ} {at m r : ℕ} → Put o at p m x → Put x m q r y → Put o at (p ++ q) r y
put-join {o} {x} {y} {p} {q} {at} {m} {r} first second =
    let l : length x ≡ length o = ap length first.placed ∙ written-length o at p first.fits in
    let e : length (p ++ q) ≡ length p + length q = length-append p q in
    record {
      fits = omega arith;
      moved = omega arith;
      placed = second.placed ∙ rw (first.placed, first.moved, written-join o at p q first.fits);
    }

-- a put leaves the buffer's length
pub put-length : {o x p : List ℕ} {at r : ℕ} → Put o at p r x → length x ≡ length o
put-length {o} {x} {p} {at} {r} f = ap length f.placed ∙ written-length o at p f.fits

-- what was put, by another name
pub put_as : {o x p q : List ℕ} {at r : ℕ} → p ≡ q → Put o at p r x → Put o at q r x
put_as {o} {x} {p} {q} {at} {r} e f = subst (λ (l : List ℕ). Put o at l r x) e f
