use Rattle.survey.proofs.Laws.Outputs.{sized-more}
use Rattle.survey.proofs.difference.outputs_size.Goals as goal

pub loop-p-preserved : goal.loop-p-preserved
loop-p-preserved c =
    let l = c.loop-p in
    let a = c.args in
    sized-more a.outputs.now a.v.scope a.v.shelf l.p-index l.k _ c.loop-p-test.true l.invariant c.operand_size-k.ensures
