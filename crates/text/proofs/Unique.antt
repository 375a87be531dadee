-- THEOREM: every text has exactly one answer, and no second outcome of `read` fits its promise. Assumes nothing.
use mathlib.Core.Path.{◌≡◌, refl, sym, ap, ◌∙◌}
use Prim.Native.Nat.{ℕ}
use mathlib.Core.List.{List}
use Rattle.std.specs.Prelude.{Ok, Err, IfOk}
use Rattle.rules.specs.Read.{Routine, Reading, refused, accepted, read_text}
use Rattle.text.specs.Routine.{routine_of}
use Rattle.text.specs.Reading.{Answer, reading_of, number_in, line_in, refusal_of, line_of, ReadingIs}

-- the routine of an accepted text
routine_or : Routine → Reading → Routine
routine_or d (refused e n) = d
routine_or d (accepted r) = r

-- the code's number and line are those of the answer that it stands for
told : (r : Answer) → (number_in r ≡ refusal_of (reading_of r)) × (line_in r ≡ line_of (reading_of r))
unfolding refusal_of line_of
told (Ok r) = (refl, refl)
told (Err d) = (refl, refl)

-- two answers that stand for one have the same routine
same-routine : (r q : Answer) → reading_of r ≡ reading_of q → IfOk r (λ x. IfOk q (λ y. routine_of x ≡ routine_of y))
unfolding routine_or
same-routine (Ok x) (Ok y) e = ap (routine_or (routine_of x)) e
same-routine (Ok x) (Err d) e = tt
same-routine (Err d) q e = tt

module _ (s : List ℕ) (r : Answer) (R : ReadingIs r (read_text s)) where
  -- THEOREM: number and line are those of the text's answer
  pub reading_told : (number_in r ≡ refusal_of (read_text s)) × (line_in r ≡ line_of (read_text s))
  reading_told = let t = told r in (t.0 ∙ ap refusal_of R.answer, t.1 ∙ ap line_of R.answer)

  -- THEOREM: two outcomes for one text have the same number and line, and the same routine where it is accepted
  pub reading_unique : (q : Answer) → ReadingIs q (read_text s)
      → (number_in r ≡ number_in q) × (line_in r ≡ line_in q)
      × IfOk r (λ x. IfOk q (λ y. routine_of x ≡ routine_of y))
  reading_unique q Q =
      let e = R.answer ∙ sym Q.answer in
      let a = told r in
      let b = told q in (
        a.0 ∙ ap refusal_of e ∙ sym b.0,
        a.1 ∙ ap line_of e ∙ sym b.1,
        same-routine r q e,
      )
