-- The bytes that judge lists are as many as its verdict lists, for the variables of the text.
-- Assumes nothing.
use mathlib.Core.Path.{◌≡◌, refl, sym, ap, ◌∙◌, subst}
use Prim.Native.Nat.{ℕ}
use native.Mathlib.Omega.{arith}
use mathlib.Core.Bool.{Bool, true, false}
use mathlib.Core.List.{List}
use Rattle.std.specs.Prelude.{Ok, Err}
use lib.ListN.{length, take, drop}
use lib.Seq.{take-append_seam}
use Rattle.rules.specs.Read.{Routine, Reading, accepted, read_text}
use Rattle.text.specs.Routine.{routine_of}
use Rattle.text.specs.Reading.{Answer, reading_of, ReadingIs}
use Rattle.verdict.specs.declared.report.Trials.{Trials}
use Rattle.verdict.specs.Judge.{Outcome, refused, equal, differs, unknown, found, report, list_after, fronted}
use Rattle.verdict.specs.Judge.{short, too_many, outcome}
use Rattle.verdict.specs.Verdict.{Claims, ClaimsIn}
use Rattle.verdict.specs.Print.{listed_bytes}
use Rattle.verdict.proofs.Laws.Bytes.{bytes-length}
use Rattle.verdict.proofs.Verdict.{finds_bytes}
use Rattle.verdict.proofs.Text.{outcome-claims}
use Rattle.print.specs.Line.{listed_with, variables_in}

-- ---- what an outcome lists

-- of an accepted text
claimed-sized : (t : Trials) (r : Routine) (o : Outcome) → Claims t r o
    → length (listed_bytes o) ≡ listed_with (report o).verdict r.variables
unfolding report listed_bytes
claimed-sized t r (refused number line) c = refl
claimed-sized t r (equal i) c = refl
claimed-sized t r (differs n i bs) c = bytes-length r.variables bs c.bytes
claimed-sized t r (unknown line made) c = refl
claimed-sized t r (found line made bs) c = bytes-length r.variables bs (finds_bytes c)

-- a refusal lists none
refused-sized : (v number line : ℕ) (o : Outcome) → o ≡ refused number line
    → length (listed_bytes o) ≡ listed_with (report o).verdict v
unfolding report listed_bytes
refused-sized v number line o e =
    subst (λ (p : Outcome). length (listed_bytes p) ≡ listed_with (report p).verdict v) (sym e) refl

-- of every text, where v is its number of variables
in_sized : (s m : Bool) (t : Trials) (g : Reading) (o : Outcome) → ClaimsIn s m t g o → (v : ℕ)
    → ((r : Routine) → g ≡ accepted r → v ≡ r.variables)
    → length (listed_bytes o) ≡ listed_with (report o).verdict v
in_sized true m t g o c v h = refused-sized v 1 0 o c
in_sized false true t g o c v h = refused-sized v 14 0 o c
in_sized false false t (Reading.refused number line) o c v h = refused-sized v number line o c
in_sized false false t (Reading.accepted r) o c v h =
    claimed-sized t r o c ∙ ap (listed_with (report o).verdict) (sym (h r refl))

-- ---- the variables of a text are those that reading gives

variables-read : (d : Answer) (r : Routine) → reading_of d ≡ accepted r → variables_in d ≡ r.variables
unfolding routine_of
variables-read (Ok x) r e = let f : routine_of x ≡ r = cc in ap (λ (p : Routine). p.variables) f
variables-read (Err x) r e = let z : ◌≡◌ {A = ℕ} 0 1 = cc in absurd (omega arith)

-- THEOREM: what comes of a text lists as many bytes as its verdict does, for the variables that reading gives
pub outcome-sized : (t : Trials) (left right list : ℕ) (text : List ℕ) (d : Answer)
    → ReadingIs d (read_text text)
    → length (listed_bytes (outcome t left right list text))
    ≡ listed_with (report (outcome t left right list text)).verdict (variables_in d)
outcome-sized t left right list text d R =
    in_sized (short left right list) (too_many t) t (read_text text) (outcome t left right list text)
    (outcome-claims t left right list text) (variables_in d) (λ r e. variables-read d r (R.answer ∙ e))

-- ---- the list that judge leaves

-- so many bytes at its front are the listed ones
pub listed_bytes_lem : (o : Outcome) (l : List ℕ) → take (length (listed_bytes o)) (list_after o l) ≡ listed_bytes o
unfolding list_after listed_bytes fronted
listed_bytes_lem (refused number line) l = refl
listed_bytes_lem (equal i) l = refl
listed_bytes_lem (differs n i bs) l = take-append_seam bs (drop (length bs) l)
listed_bytes_lem (unknown line made) l = refl
listed_bytes_lem (found line made bs) l = take-append_seam bs (drop (length bs) l)
