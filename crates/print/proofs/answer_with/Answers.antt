-- `print::answer_with` meets its contract: the line that is formed from judge's report and list is the printed one, and
-- the buffers are not too short. Assumes nothing.
use Rattle.std.proofs.Common.{◌∙◌}
use Rattle.text.specs.Reading.{answer_of}
use Rattle.verdict.specs.Judge.{work_bytes, list_bytes}
use Rattle.judge.proofs.Laws.Judging.{judged_text}
use Rattle.print.proofs.Laws.Roomy.{zeros, roomy_formed}
use Rattle.print.proofs.Laws.Listed.{outcome-sized}
use Rattle.print.proofs.Printed.{printed-formed}
use Rattle.print.proofs.answer_with.Goals as goal

pub returns : goal.returns
returns c =
    let a = c.args in
    let read = c.read-d in
    let J = judged_text a.text.now (c.told.ensures ∙ read.ensures.answer) c.judge_reading-report.ensures in
    let sized = outcome-sized a.t _ _ _ a.text.now (answer_of read.result) read.ensures in
    roomy_formed a.t a.text.now (zeros work_bytes) (zeros work_bytes) (zeros list_bytes)
    (printed-formed _ _ c.variables_of-variables.result J.answered J.listed
    (rw c.variables_of-variables.ensures sized) c.listed-n.ensures c.line.ensures)
