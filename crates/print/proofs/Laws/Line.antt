-- The line's length, its listed bytes one behind the other, and its two outcomes in a buffer: too short, and formed.
-- Assumes nothing.
use mathlib.Core.Path.{◌≡◌, refl, ap}
use Prim.Native.Nat.{ℕ, ◌+◌, ◌*◌, ◌/◌, ◌%◌, ◌<◌, ◌≤◌}
use native.Mathlib.Omega.{arith}
use native.Mathlib.Numerals.{add-one}
use native.Mathlib.Nat.{zero-add}
use mathlib.Core.List.{List, [], ◌∷◌, ◌++◌, append_assoc}
use lib.ListN.{length, take, get_or, length-append}
use lib.Seq.{take-suc, take_all, length-take-le}
use borrow.Author.Tests.{le-leb, lt-leb}
use Rattle.tokens.specs.Ascii.{tab, line_feed}
use Rattle.verdict.specs.declared.report.Report.{Report}
use Rattle.verdict.specs.Print.{hexes, hex_digit}
use Rattle.print.specs.Line.{head_of, line_of, Put, Formed}

-- each byte takes three places
pub hexes-length : (bs : List ℕ) → length (hexes bs) ≡ 3 * length bs
unfolding hexes
hexes-length [] = refl
hexes-length (b ∷ bs) = omega (arith, hexes-length bs)

-- no byte
pub hexes-none : hexes [] ≡ []
unfolding hexes
hexes-none = refl

-- bytes listed one behind the other
hexes_append : (bs cs : List ℕ) → hexes (bs ++ cs) ≡ hexes bs ++ hexes cs
unfolding hexes
hexes_append [] cs = refl
hexes_append (b ∷ bs) cs = ap (λ (l : List ℕ). tab ∷ hex_digit (b / 16) ∷ hex_digit (b % 16) ∷ l) (hexes_append bs cs)

-- how far the head and the bytes before a place reach
pub line-front : (r : Report) (bs : List ℕ) (i : ℕ) → i ≤ length bs
    → length (head_of r ++ hexes (take i bs)) ≡ length (head_of r) + 3 * i
line-front r bs i h =
    omega (
      arith,
      length-append (head_of r) (hexes (take i bs)),
      hexes-length (take i bs),
      length-take-le i bs h,
    )

-- one byte more; p is what is put for it
pub line-next : (r : Report) (bs : List ℕ) (i : ℕ) {p : List ℕ} → i < length bs → p ≡ hexes (get_or bs i 0 ∷ [])
    → head_of r ++ hexes (take i bs) ++ p ≡ head_of r ++ hexes (take (i + 1) bs)
line-next r bs i h e = rw (add-one, take-suc bs i 0, hexes_append, e, append_assoc)

-- the line feed behind all bytes
pub line-whole : (r : Report) (bs : List ℕ) (i : ℕ) → length bs ≤ i
    → head_of r ++ hexes (take i bs) ++ line_feed ∷ [] ≡ line_of r bs
unfolding line_of
line-whole r bs i h = ap (λ (l : List ℕ). head_of r ++ hexes l ++ line_feed ∷ []) (take_all i bs h)

-- the length of the whole line
pub line-length : (r : Report) (bs : List ℕ) → length (line_of r bs) ≡ length (head_of r) + 3 * length bs + 1
unfolding line_of
line-length r bs =
    omega (
      arith,
      length-append (head_of r ++ hexes bs) (line_feed ∷ []),
      length-append (head_of r) (hexes bs),
      hexes-length bs,
    )

-- the buffer is too short
pub formed-short : (line o : List ℕ) → length o < length line → Formed line o 0 o
formed-short line o h = record {
  answered = rw (lt-leb (length line) (length o) h);
  formed = rw (lt-leb (length line) (length o) h);
}

-- the line stands in the buffer
pub formed-whole : {line o x : List ℕ} {m : ℕ} → Put o 0 line m x → Formed line o m x
formed-whole {line} {o} {x} {m} f =
    let h : length line ≤ length o = omega arith in
    record {
      answered = rw (le-leb (length line) (length o) h, f.moved, zero-add);
      formed = rw (le-leb (length line) (length o) h, f.placed);
    }
