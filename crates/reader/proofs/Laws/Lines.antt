-- A reader opened on a text hands out its lines in order: moved i times it stands at the start of line i + 1, and hands
-- out what that line gives. Each step cuts one line off what is ahead. Assumes nothing.
use Prim.Native.Nat.{ℕ, zero, suc, ◌+◌, ◌-◌, ◌≤◌, ◌<◌}
use native.Mathlib.Omega.{arith}
use mathlib.Core.Path.{◌≡◌, refl, ap, sym, subst, ◌∙◌}
use mathlib.Core.Bool.{Bool, true, false, cond}
use mathlib.Core.List.{List, [], ◌∷◌}
use lib.Dec.{ltb}
use lib.ListN.{length, drop, get_or, length-drop}
use lib.Seq.{drop-cons, take_all}
use denote.Ref.{Bor}
use borrow.Author.Tests.{lt-ltb, le-ltb, ltb-true, ltb-false}
use Rattle.grammar.specs.declared.line.Line.{Line}
use Rattle.reader.specs.declared.cursor.Cursor.{Cursor}
use Rattle.reader.specs.declared.cursor.Ahead.{Ahead}
use Rattle.tokens.specs.Ascii.{line_feed, all, allowed}
use Rattle.tokens.specs.Split.{pieces}
use Rattle.reader.specs.Cursor.{line_end, look_at}
use Rattle.reader.specs.Reader.{refused, ended, bytes_of, line_given, last_given, ahead_given}
use Rattle.reader.specs.Reader.{placed, record_ahead, place_behind, place_at, handed_at}
use Rattle.reader.specs.Handed.{moved_on, reader_at}
use Rattle.tokens.proofs.Laws.Pieces.{piece_cut, piece-last, some-piece}
use Rattle.reader.proofs.Laws.Ahead.{end_at, end_ge}
use Rattle.reader.proofs.Laws.Handed.{placed_same, placed_past, behind-line, ahead-told, behind-told}

-- ---- what is ahead of a place

-- the line ahead of a place, and the place behind it, where its line feed ends it
abbrev pub line_from : List ℕ → Cursor → Line
line_from s p = record { from = p.at; len = line_end s p.at - p.at }

abbrev pub behind_from : List ℕ → Cursor → Cursor
behind_from s p = record { at = line_end s p.at + 1; line = p.line + 1 }

module _ (s : List ℕ) (p : Cursor) where
  look_fed : line_end s p.at < length s → Ahead.Line (line_from s p) (behind_from s p) ≡ look_at s p
  unfolding look_at
  look_fed h = rw (lt-ltb (line_end s p.at) (length s) h)

  look_unfed : length s ≤ line_end s p.at → p.at < length s
      → Ahead.Unended (record { from = p.at; len = length s - p.at }) ≡ look_at s p
  unfolding look_at
  look_unfed h k = rw (le-ltb (line_end s p.at) (length s) h, lt-ltb p.at (length s) k)

  look_none : length s ≤ line_end s p.at → length s ≤ p.at → Ahead.End ≡ look_at s p
  unfolding look_at
  look_none h k = rw (le-ltb (line_end s p.at) (length s) h, le-ltb p.at (length s) k)

-- What is handed out at a place within the text, and the place behind it.
module _ (s : List ℕ) (p : Cursor) (inside : p.at ≤ length s) (few : p.line ≤ p.at) where
  here-given : {x : Ahead} → x ≡ look_at s p → record_ahead s p.at p.line ≡ ahead_given s p x
  here-given a = sym (ahead-told s p.at p.line p (sym (placed_same s p inside few)) a)

  -- a line feed is ahead: what its line gives
  pub fed_given : line_end s p.at < length s
      → record_ahead s p.at p.line ≡ line_given s (line_from s p) (behind_from s p)
  fed_given h = here-given (look_fed s p h)

  -- a line feed is ahead: the place behind it
  pub fed_behind : line_end s p.at < length s → place_behind s p.at p.line ≡ behind_from s p
  fed_behind h =
      sym (behind-told s p.at p.line p (sym (placed_same s p inside few)) (look_fed s p h))
      ∙ behind-line s p (line_from s p) (behind_from s p)

  -- bytes are ahead, and no line feed: refusal 3 or 4
  pub unfed_given : length s ≤ line_end s p.at → p.at < length s
      → record_ahead s p.at p.line
      ≡ refused (cond (all allowed (drop p.at s)) 4 3) (record { at = length s; line = p.line + 1 })
  unfolding last_given
  unfed_given h k =
      let size : length (drop p.at s) ≤ length s - p.at = omega (arith, length-drop p.at s) in
      here-given (look_unfed s p h k)
      ∙ ap (λ (l : List ℕ). refused (cond (all allowed l) 4 3) (record { at = length s; line = p.line + 1 }))
      (take_all (length s - p.at) (drop p.at s) size)

  -- nothing is ahead: the end
  pub none-given : length s ≤ p.at → record_ahead s p.at p.line ≡ ended
  none-given k = here-given (look_none s p (omega (arith, end_ge s p.at)) k)

  -- nothing is ahead: the reader stays
  pub none-behind : length s ≤ p.at → place_behind s p.at p.line ≡ p
  none-behind k =
      sym (behind-told s p.at p.line p (sym (placed_same s p inside few))
      (look_none s p (omega (arith, end_ge s p.at)) k))

-- a place past the end, whatever its line number: the end
pub past-given : (s : List ℕ) (at line : ℕ) → length s ≤ at → record_ahead s at line ≡ ended
past-given s at line h =
    let p = placed s at line in
    let past = placed_past s at line h in
    sym (ahead-told s at line p refl (look_none s p (omega (arith, past, end_ge s p.at)) past))

-- ---- one after the other

-- place p is the start of line i + 1: i lines stand before it, and the others are ahead
pub record Stands (s : List ℕ) (p : Cursor) (i : ℕ) : Type 0 where
  pub inside : p.at ≤ length s
  pub few : p.line ≤ p.at
  pub counted : p.line ≡ i
  pub ahead : pieces line_feed (drop p.at s) ≡ drop i (pieces line_feed s)

module _ (s : List ℕ) (p : Cursor) (i : ℕ) (S : Stands s p i) where
  ahead_cons : i < length (pieces line_feed s)
      → pieces line_feed (drop p.at s) ≡ get_or (pieces line_feed s) i [] ∷ drop (suc i) (pieces line_feed s)
  ahead_cons h = S.ahead ∙ drop-cons (pieces line_feed s) i [] h

  unfed_whole : length s ≤ line_end s p.at → pieces line_feed (drop p.at s) ≡ drop p.at s ∷ []
  unfed_whole h = piece-last line_feed s p.at (line_end s p.at) (end_at s p.at) h S.inside

  -- another line follows: a line feed is ahead
  more_fed : suc i < length (pieces line_feed s) → line_end s p.at < length s
  more_fed h = go (ltb (line_end s p.at) (length s)) refl
    where
      go : (b : Bool) → ltb (line_end s p.at) (length s) ≡ b → line_end s p.at < length s
      go true e = ltb-true (line_end s p.at) (length s) e
      go false e =
          let one = ap length (sym S.ahead ∙ unfed_whole (ltb-false (line_end s p.at) (length s) e)) in
          absurd (omega (arith, one, length-drop i (pieces line_feed s), h))

  fed_cut : line_end s p.at < length s → pieces line_feed (drop p.at s)
      ≡ bytes_of s (line_from s p) ∷ pieces line_feed (drop (line_end s p.at + 1) s)
  fed_cut h = piece_cut line_feed s p.at (line_end s p.at) (end_at s p.at) h

  -- the bytes ahead are those of line i + 1
  pub fed_bytes : suc i < length (pieces line_feed s) → bytes_of s (line_from s p) ≡ get_or (pieces line_feed s) i []
  fed_bytes h =
      ap (λ (l : List (List ℕ)). get_or l 0 []) (sym (fed_cut (more_fed h)) ∙ ahead_cons (omega (arith, h)))

  -- behind the line ahead stands the next
  pub next-stands : suc i < length (pieces line_feed s) → Stands s (place_behind s p.at p.line) (suc i)
  next-stands h =
      let fed = more_fed h in
      let rest = ap (drop 1) (sym (fed_cut fed) ∙ ahead_cons (omega (arith, h))) in
      subst (λ (c : Cursor). Stands s c (suc i)) (sym (fed_behind s p S.inside S.few fed))
      (record {
        inside = omega (arith, fed);
        few = omega (arith, S.few, end_ge s p.at);
        counted = omega (arith, S.counted);
        ahead = rest;
      })

  -- no other line follows: no line feed is ahead
  last_unfed : suc i ≡ length (pieces line_feed s) → length s ≤ line_end s p.at
  last_unfed h = go (ltb (line_end s p.at) (length s)) refl
    where
      go : (b : Bool) → ltb (line_end s p.at) (length s) ≡ b → length s ≤ line_end s p.at
      go true e =
          let two = ap length (sym S.ahead ∙ fed_cut (ltb-true (line_end s p.at) (length s) e)) in
          let some = some-piece line_feed (drop (line_end s p.at + 1) s) in
          absurd (omega (arith, two, some, length-drop i (pieces line_feed s), h))
      go false e = ltb-false (line_end s p.at) (length s) e

  -- the bytes ahead are those behind the last line feed
  pub last-bytes : suc i ≡ length (pieces line_feed s) → drop p.at s ≡ get_or (pieces line_feed s) i []
  last-bytes h =
      ap (λ (l : List (List ℕ)). get_or l 0 []) (sym (unfed_whole (last_unfed h)) ∙ ahead_cons (omega (arith, h)))

-- moved i times, a reader opened on a text stands at the start of line i + 1
pub place-stands : (s : List ℕ) (i : ℕ) → i < length (pieces line_feed s) → Stands s (place_at s i) i
unfolding place_at
place-stands s zero h = record { inside = omega arith; few = omega arith; counted = refl; ahead = refl }
place-stands s (suc i) h = next-stands s (place_at s i) i (place-stands s i (omega (arith, h))) h

module _ (s : List ℕ) (i : ℕ) where
  -- line i + 1 where its line feed ends it: what its bytes give is handed out, with its number
  pub handed-line : suc i < length (pieces line_feed s)
      → (handed_at s i ≡ line_given s (line_from s (place_at s i)) (place_at s (suc i)))
      × (bytes_of s (line_from s (place_at s i)) ≡ get_or (pieces line_feed s) i [])
      × ((place_at s (suc i)).line ≡ suc i)
  unfolding handed_at place_at
  handed-line h =
      let S = place-stands s i (omega (arith, h)) in
      let p = place_at s i in
      let fed = more_fed s p i S h in (
        fed_given s p S.inside S.few fed
            ∙ ap (line_given s (line_from s p)) (sym (fed_behind s p S.inside S.few fed)),
        fed_bytes s p i S h,
        (next-stands s p i S h).counted,
      )

  -- behind the last line feed, where bytes stand there: refusal 3, or 4, with the line's number
  pub handed-last : suc i ≡ length (pieces line_feed s) → 0 < length (get_or (pieces line_feed s) i [])
      → handed_at s i
      ≡ refused (cond (all allowed (get_or (pieces line_feed s) i [])) 4 3) (record { at = length s; line = suc i })
  unfolding handed_at
  handed-last h k =
      let p = place_at s i in
      let S = place-stands s i (omega (arith, h)) in
      let bytes = last-bytes s p i S h in
      let more : p.at < length s = omega (arith, k, ap length bytes, length-drop p.at s) in
      let number : p.line + 1 ≡ suc i = omega (arith, S.counted) in
      unfed_given s p S.inside S.few (last_unfed s p i S h) more
      ∙ (λ j. refused (cond (all allowed (bytes j)) 4 3) (record { at = length s; line = number j }))

  -- behind the last line feed, where nothing stands there: the end
  pub handed_end : suc i ≡ length (pieces line_feed s) → get_or (pieces line_feed s) i [] ≡ [] → handed_at s i ≡ ended
  unfolding handed_at
  handed_end h k =
      let p = place_at s i in
      let S = place-stands s i (omega (arith, h)) in
      let none : length (drop p.at s) ≡ 0 = ap length (last-bytes s p i S h ∙ k) in
      none-given s p S.inside S.few (omega (arith, none, length-drop p.at s))

-- a reader opened on a text and moved i times holds that text, and stands at that place
pub reader-place : (text : Bor (List ℕ)) (i : ℕ)
    → let p = place_at text.now i in reader_at text i ≡ record { text = text; at = p.at; line = p.line }
unfolding reader_at place_at
reader-place text zero = refl
reader-place text (suc i) = ap moved_on (reader-place text i)
