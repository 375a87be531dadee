-- The bytes of a trial in the byte list, and what is reported after the trials, by what they found.
-- Assumes nothing.
use mathlib.Core.Path.{◌≡◌, sym, ap, ◌∙◌}
use Prim.Native.Nat.{ℕ, ◌≤◌}
use mathlib.Core.List.{List, ◌++◌}
use lib.ListN.{length, take, drop}
use lib.Seq.{length-take-le}
use Rattle.text.specs.declared.routine.Routine as code
use Rattle.text.specs.Routine.{routine_of}
use Rattle.verdict.specs.declared.report.Verdict.TheVariants.{Unknown, Found}
use Rattle.verdict.specs.declared.report.Report.{Report}
use Rattle.verdict.specs.declared.report.Trials.{Trials}
use Rattle.std.proofs.Common.{Option, Some, None}
use Rattle.verdict.specs.declared.trials.Differing.{Differing}
use Rattle.verdict.specs.Trials as trials
use Rattle.verdict.specs.Trials.{try, found_of}
use Rattle.verdict.specs.Judge.{given_up, report, fronted, list_after}
use Rattle.judge.specs.Settle.{given_up_report, GaveUp}

-- the first v bytes stand at the front of the list
pub front-copied : (v : ℕ) (bs x l : List ℕ) → v ≤ length bs → x ≡ take v bs → x ++ drop v l ≡ fronted (take v bs) l
unfolding fronted
front-copied v bs x l h e = rw (e, length-take-le v bs h)

-- ---- what is reported

module _ (r : code.Routine) (t : Trials) (line : ℕ) (list : List ℕ) {f : Option Differing}
    (e : found_of r.variables f ≡ try (routine_of r) t.count t.start) where
  -- no trial differs
  pub gave_unknown : {a : Report} → f ≡ None → a ≡ given_up_report Unknown line t.count → GaveUp r t line list a list
  unfolding found_of given_up report list_after
  gave_unknown h q =
      let g = sym (ap (found_of r.variables) h) ∙ e in
      record {
        answered = q ∙ ap (λ (x : trials.Found). report (given_up t.count line x)) g;
        listed = ap (λ (x : trials.Found). list_after (given_up t.count line x) list) g;
      }

  -- the last one does
  pub gave_found : {a : Report} {list' : List ℕ} {d : Differing} → f ≡ Some d
      → list' ≡ fronted (take r.variables d.bytes) list → a ≡ given_up_report Found line d.made
      → GaveUp r t line list a list'
  unfolding found_of given_up report list_after
  gave_found h l q =
      let g = sym (ap (found_of r.variables) h) ∙ e in
      record {
        answered = q ∙ ap (λ (x : trials.Found). report (given_up t.count line x)) g;
        listed = l ∙ ap (λ (x : trials.Found). list_after (given_up t.count line x) list) g;
      }
