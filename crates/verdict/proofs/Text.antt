-- Judge's outcome for every text and all lent buffers: refusal 1 where a buffer is too short, and else what claims the
-- truth of the text, which one outcome alone does.
-- Assumes nothing.
use Rattle.std.proofs.Common.{◌≡◌, ℕ, Bool, true, false, cond, List, sym, refl, ◌∙◌}
use Rattle.rules.specs.Read.{Reading, read_text}
use Rattle.rules.specs.Formed.{Formed}
use Rattle.rules.proofs.Laws.Keeping.{Accepts}
use Rattle.rules.proofs.Laws.Formed.{read-formed}
use Rattle.verdict.specs.declared.report.Trials.{Trials}
use Rattle.verdict.specs.Judge.{Outcome, refused, too_many, judge_reading, short, outcome}
use Rattle.verdict.specs.Verdict.{ClaimsOf, ClaimsIn}
use Rattle.verdict.proofs.Verdict.{judge_claims, claims_unique}

-- ---- what was read

module _ (t : Trials) (g : Reading) (F : Accepts Formed g) where
  reading_claims : ClaimsOf t g (judge_reading t g)
  unfolding judge_reading
  reading_claims = go g F
    where
      go : (g : Reading) → Accepts Formed g → ClaimsOf t g (judge_reading t g)
      go (Reading.refused number line) F = refl
      go (Reading.accepted r) F = judge_claims r F t

  reading_only : (o p : Outcome) → ClaimsOf t g o → ClaimsOf t g p → o ≡ p
  reading_only = go g F
    where
      go : (g : Reading) → Accepts Formed g → (o p : Outcome) → ClaimsOf t g o → ClaimsOf t g p → o ≡ p
      go (Reading.refused number line) F o p h k = h ∙ sym k
      go (Reading.accepted r) F o p h k = claims_unique r F t o p h k

  answer-claims : (s m : Bool) → ClaimsIn s m t g (cond s (refused 1 0) (cond m (refused 14 0) (judge_reading t g)))
  answer-claims true m = refl
  answer-claims false true = refl
  answer-claims false false = reading_claims

  answer-only : (s m : Bool) (o p : Outcome) → ClaimsIn s m t g o → ClaimsIn s m t g p → o ≡ p
  answer-only true m o p h k = h ∙ sym k
  answer-only false true o p h k = h ∙ sym k
  answer-only false false o p h k = reading_only o p h k

-- ---- every text

module _ (t : Trials) (left right list : ℕ) (text : List ℕ) where
  -- THEOREM: the outcome claims what holds of the text
  pub outcome-claims : ClaimsIn (short left right list) (too_many t) t (read_text text) (outcome t left right list text)
  unfolding outcome
  outcome-claims = answer-claims t (read_text text) (read-formed text) (short left right list) (too_many t)

  -- THEOREM: and no other outcome does
  pub outcome-only : (o : Outcome) → ClaimsIn (short left right list) (too_many t) t (read_text text) o
      → o ≡ outcome t left right list text
  outcome-only o h =
      answer-only t (read_text text) (read-formed text) (short left right list) (too_many t) o
      (outcome t left right list text) h outcome-claims
