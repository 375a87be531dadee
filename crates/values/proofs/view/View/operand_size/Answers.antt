-- `values::view::View::operand_size` meets its contract. The size of what is found. Assumes nothing.
use Rattle.values.proofs.Laws.Sizes.{operand-sized}
use Rattle.values.proofs.view.View.operand_size.Goals as goal

pub returns : goal.returns
returns c = operand-sized _ _ _ _ _ c.args.self.narrow c.requires c.locate.ensures c.size_of.ensures
