-- `values::load::lay_variable` meets its contract. A row of zeros with two ones, written as one term. Assumes nothing.
use Rattle.values.proofs.Laws.Laying.{lay-variable_law}
use Rattle.values.proofs.load.lay_variable.Goals as goal

pub returns : goal.returns
returns c =
    lay-variable_law _ _ _ _ _ c.requires
    c.write_at.ensures
