use Rattle.std.proofs.Common.{arith}
use Rattle.survey.proofs.Laws.Outputs.{output-asked, output-small, output-more}
use Rattle.survey.proofs.difference.load_outputs.Goals as goal

pub load-requires : goal.load-requires
load-requires c = output-asked c.requires c.loop-p-test.true c.loop-p.invariant c.place-source.ensures

pub overflow_add-k : goal.overflow_add-k
overflow_add-k c =
    omega (
      arith,
      c.size_of-k.ensures,
      output-small c.requires c.loop-p-test.true c.loop-p.invariant c.place-source.ensures,
    )

pub loop-p-preserved : goal.loop-p-preserved
loop-p-preserved c =
    output-more c.requires c.loop-p-test.true c.loop-p.invariant c.place-source.ensures _ _ c.size_of-k.ensures
    c.load.ensures
