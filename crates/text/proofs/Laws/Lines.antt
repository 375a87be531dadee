-- The walk from line to line: at place `at` n lines are passed and st is known; `end` is the line feed ahead, or the
-- text's end.
use Prim.Native.Nat.{ℕ, ◌+◌, ◌-◌, ◌≤◌, ◌<◌}
use mathlib.Core.Path.{◌≡◌, refl, sym, ◌∙◌, ap}
use mathlib.Core.Bool.{cond}
use mathlib.Core.List.{List, [], ◌∷◌}
use native.Mathlib.Omega.{arith}
use lib.Dec.{eqb}
use lib.ListN.{length, take, drop, length-drop, drop_of_length-le}
use Rattle.tokens.specs.Ascii.{line_feed, all, allowed}
use Rattle.tokens.specs.Split.{before, pieces}
use Rattle.rules.specs.State.{State}
use Rattle.rules.specs.Order.{at_end}
use Rattle.rules.specs.Read.{Reading, refused, accepted, Outcome, stop, next, take_line, take_last, follow}
use Rattle.rules.specs.Read.{take_lines, routine}
use Rattle.tokens.proofs.Laws.Pieces.{piece_cut, piece-last, some-piece}

-- one line, ended, with what it leads to, before the lines ps
stops : (st : State) (n e : ℕ) (l : List ℕ) (ps : List (List ℕ)) → 0 < length ps → take_line st (n + 1) l ≡ stop e
    → take_lines st n (l ∷ ps) ≡ refused e (n + 1)
unfolding take_lines follow
stops st n e l [] h q = absurd (omega arith)
stops st n e l (p ∷ ps) h q = ap (λ (o : Outcome). follow o (n + 1) (λ t. take_lines t (n + 1) (p ∷ ps))) q

goes : (st t : State) (n : ℕ) (l : List ℕ) (ps : List (List ℕ)) → 0 < length ps → take_line st (n + 1) l ≡ next t
    → take_lines st n (l ∷ ps) ≡ take_lines t (n + 1) ps
unfolding take_lines follow
goes st t n l [] h q = absurd (omega arith)
goes st t n l (p ∷ ps) h q = ap (λ (o : Outcome). follow o (n + 1) (λ u. take_lines u (n + 1) (p ∷ ps))) q

unended : (st : State) (n : ℕ) (l : List ℕ) → 0 < length l
    → take_last st n l ≡ refused (cond (all allowed l) 4 3) (n + 1)
unfolding take_last
unended st n [] h = absurd (omega arith)
unended st n (b ∷ l) h = refl

module _ (st : State) (n : ℕ) (s : List ℕ) (at end : ℕ) (e : end ≡ at + before line_feed (drop at s)) {x : Reading}
    (i : x ≡ take_lines st n (pieces line_feed (drop at s))) where
  -- the line is refused
  pub line-stops : (r : ℕ) → end < length s → take_line st (n + 1) (take (end - at) (drop at s)) ≡ stop r
      → refused r (n + 1) ≡ x
  line-stops r h q =
      sym (i ∙ ap (take_lines st n) (piece_cut line_feed s at end e h)
      ∙ stops st n r _ _ (some-piece line_feed (drop (end + 1) s)) q)

  -- the line is taken, and the walk goes on behind it
  pub line-goes : (t : State) → end < length s → take_line st (n + 1) (take (end - at) (drop at s)) ≡ next t
      → x ≡ take_lines t (n + 1) (pieces line_feed (drop (end + 1) s))
  line-goes t h q =
      i ∙ ap (take_lines st n) (piece_cut line_feed s at end e h)
      ∙ goes st t n _ _ (some-piece line_feed (drop (end + 1) s)) q

  -- no line feed is left
  last : at ≤ length s → length s ≤ end → x ≡ take_last st n (drop at s)
  unfolding take_lines
  last k h = i ∙ ap (take_lines st n) (piece-last line_feed s at end e h k)

  -- the text ends behind a line feed, or is empty
  pub text-ends : at ≤ length s → length s ≤ at
      → x ≡ cond (eqb st.stage at_end) (accepted (routine st n)) (refused 6 (n + 1))
  unfolding take_last
  text-ends k h = last k (omega arith) ∙ ap (take_last st n) (drop_of_length-le s h)

  -- the last line lacks its line feed
  pub line-unended : at < length s → length s ≤ end → x ≡ refused (cond (all allowed (drop at s)) 4 3) (n + 1)
  line-unended k h = last (omega arith) h ∙ unended st n (drop at s) (omega (arith, length-drop at s))
