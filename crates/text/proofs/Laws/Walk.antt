-- The walk over the lines by the code's steps. Assumes nothing.
use Prim.Native.Nat.{ℕ, ◌+◌, ◌-◌, ◌≤◌}
use native.Mathlib.Omega.{arith}
use mathlib.Core.Path.{◌≡◌, sym, ◌∙◌, ap}
use mathlib.Core.Bool.{cond}
use mathlib.Core.List.{List}
use lib.Dec.{eqb}
use lib.ListN.{length, take, drop, length-drop}
use lib.Seq.{take_all}
use Rattle.grammar.specs.declared.line.Line.{Line}
use Rattle.reader.specs.declared.cursor.Cursor.{Cursor}
use Rattle.reader.specs.declared.cursor.Ahead.{Ahead}
use Rattle.lines.specs.declared.step.Step.{Step}
use Rattle.tokens.specs.Ascii.{line_feed, all, allowed}
use Rattle.tokens.specs.Split.{pieces}
use Rattle.rules.specs.Order.{at_end}
use Rattle.reader.specs.Cursor.{line_end, look_at}
use Rattle.reader.proofs.Laws.Ahead.{look-line, look-unended, look_end, end_at}
use Rattle.rules.specs.Read.{Reading, refused, accepted, take_line, take_lines, routine}
use Rattle.lines.specs.Known.{Kept, state_in}
use Rattle.lines.specs.Stored.{after}
use Rattle.lines.specs.Taken.{outcome_in}
use Rattle.lines.specs.Stage.{stage_of}
use Rattle.std.specs.Prelude.{Result, Ok, Err}
use Rattle.tokens.specs.Refusal.{number}
use Rattle.tokens.specs.declared.refusal.Refusal.{Refusal}
use Rattle.text.proofs.Laws.Lines.{line-stops, line-goes, text-ends, line-unended}

-- ---- the walk

module _ (s : List ℕ) (h : Kept) (c : Cursor) {x : Reading}
    (i : x ≡ take_lines (state_in s h) c.line (pieces line_feed (drop c.at s))) where
  module _ (l : Line) (n : Cursor) (a : Ahead.Line l n ≡ look_at s c) (r : Result Step Refusal)
      (t : outcome_in s h r ≡ take_line (state_in s h) n.line (take l.len (drop l.from s))) where
    here : outcome_in s h r ≡ take_line (state_in s h) (c.line + 1) (take (line_end s c.at - c.at) (drop c.at s))
    here =
        let L = look-line s c l n a in
        t ∙ (λ j. take_line (state_in s h) (L.2 j).line (take (L.1 j).len (drop (L.1 j).from s)))

    -- a line is refused
    pub line_refused : (e : Refusal) → r ≡ Err e → refused (number e) n.line ≡ x
    unfolding outcome_in
    line_refused e z =
        let L = look-line s c l n a in
        ap (λ (m : Cursor). refused (number e) m.line) L.2
        ∙ line-stops (state_in s h) c.line s c.at (line_end s c.at) (end_at s c.at) i (number e) L.0
        (sym here ∙ ap (outcome_in s h) z)

    -- a line is taken, and q is held behind it
    pub line_taken : (p : Step) → r ≡ Ok p → {q : Kept} → q ≡ after s h p.held.known p.put
        → x ≡ take_lines (state_in s q) n.line (pieces line_feed (drop n.at s))
    unfolding outcome_in
    line_taken p z e =
        let L = look-line s c l n a in
        line-goes (state_in s h) c.line s c.at (line_end s c.at) (end_at s c.at) i
        (state_in s (after s h p.held.known p.put))
        L.0 (sym here ∙ ap (outcome_in s h) z)
        ∙ (λ j. take_lines (state_in s (sym e j)) (sym L.2 j).line (pieces line_feed (drop (sym L.2 j).at s)))

  -- the last line lacks its line feed
  pub text-unended : (l : Line) → Ahead.Unended l ≡ look_at s c
      → refused (cond (all allowed (take l.len (drop l.from s))) 4 3) (c.line + 1) ≡ x
  text-unended l a =
      let L = look-unended s c l a in
      let size : length (drop c.at s) ≤ length s - c.at = omega (arith, length-drop c.at s) in
      ap (λ (m : Line). refused (cond (all allowed (take m.len (drop m.from s))) 4 3) (c.line + 1)) L.2
      ∙ ap (λ (m : List ℕ). refused (cond (all allowed m) 4 3) (c.line + 1))
      (take_all (length s - c.at) (drop c.at s) size)
      ∙ sym (line-unended (state_in s h) c.line s c.at (line_end s c.at) (end_at s c.at) i L.1 L.0)

  -- the text ends
  pub text-ended : c.at ≤ length s → Ahead.End ≡ look_at s c
      → cond (eqb (stage_of h.known.stage) at_end) (accepted (routine (state_in s h) c.line))
      (refused 6 (c.line + 1)) ≡ x
  unfolding state_in
  text-ended l a = sym (text-ends (state_in s h) c.line s c.at (line_end s c.at) (end_at s c.at) i l
      (look_end s c a))
