-- A reader opened on a text reads what the text gives. Assumes nothing.
use Rattle.std.proofs.Common.{◌≡◌, Err, subst, rules}
use Rattle.rules.specs.Read.{read_text}
use Rattle.text.specs.Reading.{Answer, ReadingIs}
use Rattle.text.proofs.Laws.From.{opened-reads}
use Rattle.text.proofs.Laws.Counts.{reading_ready}
use Rattle.text.proofs.read.read.Goals as goal
use Rattle.text.proofs.read.read.Goals.{After-read_all}

-- what is read from the start on
whole : (c : After-read_all) {d : Answer} → c.read_all.result ≡ d → ReadingIs d (read_text c.args.s.now)
whole c e =
    subst (λ (x : Answer). ReadingIs x (read_text c.args.s.now)) e
    (opened-reads c.args.s _ _ c.open.ensures c.read_all.ensures)

pub returns-in_err-routine : goal.returns-in_err-routine
returns-in_err-routine c =
    let e : c.from_residual.result ≡ Err c.in_err-routine.field-0.0 = search rules in
    rw e (whole (goal.at.returns-in_err-routine c).After-read_all c.in_err-routine.was)

pub invariant_of-result : goal.invariant_of-result
invariant_of-result c =
    record { ready = reading_ready _ _ (whole (goal.at.invariant_of-result c).After-read_all c.in_ok-routine.was) }

pub returns : goal.returns
returns c = whole (goal.at.returns c).After-read_all c.in_ok-routine.was
