-- THEOREM: the routine that reading gives is well formed: counts within the limits, places below the number of values
-- so far, map numbers given, variables at most 16. Assumes nothing.
use Prim.Native.Nat.{ℕ}
use mathlib.Core.Path.{sym, subst}
use mathlib.Core.List.{List}
use Rattle.text.specs.declared.routine.Routine as code
use Rattle.std.specs.Prelude.{Ok}
use Rattle.rules.specs.Read.{Routine, Reading, read_text}
use Rattle.text.specs.Routine.{routine_of, Counted}
use Rattle.text.specs.Ready.{Ready}
use Rattle.text.specs.Reading.{ReadingIs}
use Rattle.rules.specs.Formed.{Formed}
use Rattle.rules.specs.Ranged.{Ranged, Limited}
use Rattle.rules.proofs.Laws.Keeping.{Accepts}
use Rattle.rules.proofs.Laws.Formed.{read-formed}
use Rattle.rules.proofs.Laws.Ranged.{read-ranged}
use Rattle.rules.proofs.Laws.Limits.{read_limited}

module _ (s : List ℕ) (r : code.Routine) (R : ReadingIs (Ok r) (read_text s)) where
  -- what holds of the routine of every accepted text holds of this one
  reading_keeps : (P : Routine → Type 0) → ((text : List ℕ) → Accepts P (read_text text)) → P (routine_of r)
  reading_keeps P h = subst (λ (x : Reading). Accepts P x) (sym R.answer) (h s)

  -- constants are bytes, maps have eight columns, and the inputs' shares are variables, at most 16
  pub reading_formed : Formed (routine_of r)
  reading_formed = reading_keeps Formed read-formed

  -- each place that is read is given above, and each map and variable is one of the routine's
  pub reading_ranged : Ranged (routine_of r)
  reading_ranged = reading_keeps Ranged read-ranged

  -- the counts are within the limits
  pub reading_limited : Limited (routine_of r)
  reading_limited = reading_keeps Limited read_limited

  -- so are the counts of the code's arrays
  pub reading_counted : Counted r
  unfolding routine_of
  reading_counted =
      record {
        maps = R.held.mapped;
        inputs = R.held.inputs;
        fits = reading_formed.fits;
        room = R.held.variables;
        statements = R.held.statements;
        outputs = R.held.named;
      }

  -- all that an accepted text gives
  pub reading_ready : Ready r
  reading_ready = record { counted = reading_counted; formed = reading_formed; ranged = reading_ranged }
