-- `judge::judge_with` meets its contract: the text is read, and what it gives is judged. Assumes nothing.
use Rattle.std.proofs.Common.{◌∙◌}
use Rattle.judge.proofs.Laws.Judging.{judged_text}
use Rattle.judge.proofs.judge_with.Goals as goal

pub returns : goal.returns
returns c =
    judged_text c.args.text.now (c.told.ensures ∙ c.read.ensures.answer)
    c.judge_reading.ensures
