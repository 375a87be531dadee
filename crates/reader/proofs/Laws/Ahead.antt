-- What the line ahead of a cursor says of the text, in each of the three cases. Assumes nothing.
use Prim.Native.Nat.{ℕ, ◌+◌, ◌-◌, ◌≤◌, ◌<◌}
use native.Mathlib.Omega.{arith}
use mathlib.Core.Path.{◌≡◌, refl, ap}
use mathlib.Core.Bool.{Bool, true, false, cond}
use mathlib.Core.List.{List}
use lib.Dec.{ltb}
use lib.ListN.{length, drop}
use borrow.Author.Tests.{ltb-true, ltb-false}
use Rattle.grammar.specs.declared.line.Line.{Line}
use Rattle.reader.specs.declared.cursor.Cursor.{Cursor}
use Rattle.reader.specs.declared.cursor.Ahead.{Ahead}
use Rattle.tokens.specs.Ascii.{line_feed}
use Rattle.tokens.specs.Split.{before}
use Rattle.reader.specs.Cursor.{line_end, look_at}

tag : Ahead → ℕ
tag (Ahead.Line l c) = 0
tag (Ahead.Unended l) = 1
tag Ahead.End = 2

line_of : Line → Ahead → Line
line_of d (Ahead.Line l c) = l
line_of d (Ahead.Unended l) = l
line_of d Ahead.End = d

cursor_of : Cursor → Ahead → Cursor
cursor_of d (Ahead.Line l c) = c
cursor_of d (Ahead.Unended l) = d
cursor_of d Ahead.End = d

other : {A : Type 0} {x y : Ahead} → x ≡ y → (tag x ≡ tag y → ⊥) → A
other e h = absurd (h (ap tag e))

module _ (s : List ℕ) (c : Cursor) where
  -- a line ends ahead: where it stands, and the cursor behind it
  pub look-line : (l : Line) (n : Cursor) → Ahead.Line l n ≡ look_at s c
      → (line_end s c.at < length s) × (l ≡ record { from = c.at; len = line_end s c.at - c.at })
      × (n ≡ record { at = line_end s c.at + 1; line = c.line + 1 })
  unfolding look_at tag line_of cursor_of
  look-line l n e = go (ltb (line_end s c.at) (length s)) (ltb c.at (length s)) refl e
    where
      go : (p q : Bool) → ltb (line_end s c.at) (length s) ≡ p
          → Ahead.Line l n ≡ cond p (Ahead.Line (record { from = c.at; len = line_end s c.at - c.at })
          (record { at = line_end s c.at + 1; line = c.line + 1 }))
          (cond q (Ahead.Unended (record { from = c.at; len = length s - c.at })) Ahead.End)
          → (line_end s c.at < length s) × (l ≡ record { from = c.at; len = line_end s c.at - c.at })
          × (n ≡ record { at = line_end s c.at + 1; line = c.line + 1 })
      go true q h t = (ltb-true (line_end s c.at) (length s) h, ap (line_of l) t, ap (cursor_of n) t)
      go false true h t = other t (λ z. omega arith)
      go false false h t = other t (λ z. omega arith)

  -- the last line lacks its line feed
  pub look-unended : (l : Line) → Ahead.Unended l ≡ look_at s c
      → (length s ≤ line_end s c.at) × (c.at < length s) × (l ≡ record { from = c.at; len = length s - c.at })
  unfolding look_at tag line_of
  look-unended l e = go (ltb (line_end s c.at) (length s)) (ltb c.at (length s)) refl refl e
    where
      go : (p q : Bool) → ltb (line_end s c.at) (length s) ≡ p → ltb c.at (length s) ≡ q
          → Ahead.Unended l ≡ cond p (Ahead.Line (record { from = c.at; len = line_end s c.at - c.at })
          (record { at = line_end s c.at + 1; line = c.line + 1 }))
          (cond q (Ahead.Unended (record { from = c.at; len = length s - c.at })) Ahead.End)
          → (length s ≤ line_end s c.at) × (c.at < length s) × (l ≡ record { from = c.at; len = length s - c.at })
      go true q h k t = other t (λ z. omega arith)
      go false true h k t = (ltb-false (line_end s c.at) (length s) h, ltb-true c.at (length s) k, ap (line_of l) t)
      go false false h k t = other t (λ z. omega arith)

  -- the text ends here
  pub look_end : Ahead.End ≡ look_at s c → length s ≤ c.at
  unfolding look_at tag
  look_end e = go (ltb (line_end s c.at) (length s)) (ltb c.at (length s)) refl e
    where
      go : (p q : Bool) → ltb c.at (length s) ≡ q
          → Ahead.End ≡ cond p (Ahead.Line (record { from = c.at; len = line_end s c.at - c.at })
          (record { at = line_end s c.at + 1; line = c.line + 1 }))
          (cond q (Ahead.Unended (record { from = c.at; len = length s - c.at })) Ahead.End)
          → length s ≤ c.at
      go true q k t = other t (λ z. omega arith)
      go false true k t = other t (λ z. omega arith)
      go false false k t = ltb-false c.at (length s) k

-- a line ends no sooner than it starts
pub end_ge : (s : List ℕ) (at : ℕ) → at ≤ line_end s at
unfolding line_end
end_ge s at = omega arith

-- where the line ahead ends, by the place of its line feed
pub end_at : (s : List ℕ) (at : ℕ) → line_end s at ≡ at + before line_feed (drop at s)
unfolding line_end
end_at s at = refl
