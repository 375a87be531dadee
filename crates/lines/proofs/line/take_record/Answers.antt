-- The record before its stage, then the stage. Assumes nothing.
use Rattle.grammar.specs.TextLine.{pieces_of}
use Rattle.grammar.specs.Record.{record_for}
use Rattle.rules.specs.Grown.{at_stage}
use Rattle.lines.specs.declared.step.Step.{Step}
use Rattle.lines.specs.Known.{kept, state_in}
use Rattle.lines.specs.Stage.{stage_of}
use Rattle.lines.specs.Stored.{after}
use Rattle.rules.specs.Order.{stage_after}
use Rattle.rules.specs.Read.{next, take_record}
use Rattle.lines.specs.Taken.{takes, outcome_in}
use Rattle.lines.proofs.Laws.Leading.{record_stops, record_goes, leads_is}
use Rattle.std.proofs.Common.{rules}
use Rattle.std.specs.Prelude.{Err, Some as some, None as none}
use Rattle.tokens.specs.Refusal.{number}
use mathlib.Core.Path.{◌≡◌, refl, ap, ◌∙◌}
use Rattle.grammar.specs.Recorded.{record_in}
use Rattle.tokens.specs.declared.refusal.Refusal.TheVariants.{Form}
use Rattle.lines.proofs.line.take_record.Goals as goal
use Rattle.lines.proofs.line.take_record.Goals.{In_ok-r}

-- the record of the line
read_is : (c : In_ok-r)
    → record_in c.args.l.text.now (pieces_of c.args.l) c.in_ok-r.r
    ≡ record_for c.args.w (pieces_of c.args.l)
read_is c =
    let was : c.record.result ≡ some c.in_ok-r.r = search rules in
    rw was at c.record.ensures

pub returns-in_err-r : goal.returns-in_err-r
unfolding outcome_in take_record
returns-in_err-r c =
    let s = c.args.l.text.now in
    let q : c.from_residual.result ≡ Err Form = search rules in
    let was : c.record.result ≡ none = search rules in
    let bad : none ≡ record_for c.args.w (pieces_of c.args.l) = rw was at c.record.ensures in (
      leads_is q
          (record {
            outcome = λ a z.
                ap (take_record (state_in s (kept c.args.t.now c.args.h.known a)) c.args.n c.args.w) bad;
            step = tt;
          }),
      refl,
    )

pub returns-in_err-step : goal.returns-in_err-step
unfolding outcome_in state_in
returns-in_err-step c =
    let s = c.args.l.text.now in
    let t = c.args.t.now in
    let o = record_for c.args.w (pieces_of c.args.l) in
    let F = c.in_err-step in
    let read = read_is (goal.at.returns-in_err-step c).In_ok-r in
    let T = F.ensures in
    let q : c.from_residual-in_err-step.result ≡ Err F.field-0.0 = search rules in (
      leads_is q
          (record {
            outcome = λ a z.
                let h = kept t c.args.h.known a in
                record_stops (state_in s h) c.args.n c.args.w o (number F.field-0.0)
                (T.0.outcome a z
                ∙ (λ i. takes (state_in s h) c.args.n (c.may_stand-stands.ensures i) (read i)));
            step = tt;
          }),
      T.1,
    )

pub returns : goal.returns
unfolding outcome_in state_in after at_stage
returns c =
    let s = c.args.l.text.now in
    let t = c.args.t.now in
    let w = c.args.w in
    let T = c.in_ok-step.ensures in
    let read = read_is (goal.at.returns c).In_ok-r in
    let r : Step = c.in_ok-step.step in
    let o = record_for w (pieces_of c.args.l) in
    let P = T.0.step in
    let at : stage_of r.held.known.stage ≡ stage_of c.args.h.known.stage = ap stage_of P.stage in
    let g = c.stage_after-known in
    let same : stage_of g.result ≡ stage_after w (stage_of c.args.h.known.stage) =
    g.ensures ∙ ap (stage_after w) at in (
      record {
        outcome = λ a z.
            let h = kept t c.args.h.known a in
            let q = T.0.outcome a z
            ∙ (λ i. takes (state_in s h) c.args.n (c.may_stand-stands.ensures i) (read i)) in
            (λ i. next (at_stage (same i) (state_in s (after s h r.held.known r.put))))
            ∙ record_goes (state_in s h) c.args.n w o (state_in s (after s h r.held.known r.put)) q;
        step = record { fits = P.fits; lets = P.lets };
      },
      T.1,
    )
