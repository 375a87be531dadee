use Rattle.values.proofs.Laws.Laying.{variables-more}
use Rattle.values.proofs.load.lay_variables.Goals as goal

pub loop-j-preserved : goal.loop-j-preserved
loop-j-preserved c =
    let a = c.args in
    let p = c.requires in
    let loop = c.loop-j in
    let lay-variable = c.lay_variable in
    variables-more a.w a.b.now loop.b lay-variable.new.b a.at a.i loop.j
    p.1.some loop.invariant lay-variable.ensures
