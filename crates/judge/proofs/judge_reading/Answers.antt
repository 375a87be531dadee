-- `judge::judge_reading` meets its contract: each refusal, or what comes of the routine that was read. Assumes nothing.
use Rattle.std.proofs.Common.{ℕ, ap, inl, inr, ◌∙◌}
use Rattle.verdict.specs.Judge.{refused, report}
use Rattle.judge.specs.Judge.{told_of}
use Rattle.judge.proofs.Laws.Judging.{left-short, right-short, list-short, many_asked, read-refused}
use Rattle.judge.proofs.Laws.Judging.{judged_routine}
use Rattle.judge.proofs.judge_reading.Goals as goal

pub returns-then-left-lt-WORK_BYTES : goal.returns-then-left-lt-WORK_BYTES
returns-then-left-lt-WORK_BYTES c =
    let e = c.refuse.ensures ∙ ap (λ (n : ℕ). report (refused n 0)) c.number.ensures in
    elim c.then-left-lt-WORK_BYTES.either [
      | inl h ↦ left-short h e
      | inr o ↦ elim o [
        | inl h ↦ right-short h.1 e
        | inr h ↦ list-short h.2 e
      ]
    ]

pub returns-then-t-gt-MOST_TRIALS : goal.returns-then-t-gt-MOST_TRIALS
returns-then-t-gt-MOST_TRIALS c =
    let a = c.args in
    many_asked a.t (told_of a.d)
    (record {
      first = c.if-left-lt-WORK_BYTES.false;
      second = c.if-right-lt-WORK_BYTES.false;
      third = c.if-list-lt-LIST_BYTES.false;
    })
    c.if-t-gt-MOST_TRIALS.true
    (c.refuse-then-t-gt-MOST_TRIALS.ensures
    ∙ ap (λ (n : ℕ). report (refused n 0)) c.number-then-t-gt-MOST_TRIALS.ensures)

pub returns-in-Err : goal.returns-in-Err
returns-in-Err c =
    let a = c.args in
    read-refused
    (record {
      first = c.if-left-lt-WORK_BYTES.false;
      second = c.if-right-lt-WORK_BYTES.false;
      third = c.if-list-lt-LIST_BYTES.false;
    })
    c.if-t-gt-MOST_TRIALS.false (ap told_of c.in-Err.is) c.refuse-in-Err.ensures

pub returns-in-Ok : goal.returns-in-Ok
returns-in-Ok c =
    let a = c.args in
    judged_routine
    (record {
      first = c.if-left-lt-WORK_BYTES.false;
      second = c.if-right-lt-WORK_BYTES.false;
      third = c.if-list-lt-LIST_BYTES.false;
    })
    c.if-t-gt-MOST_TRIALS.false (ap told_of c.in-Ok.is) c.judge_routine.ensures
