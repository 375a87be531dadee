-- `values::load::load` meets its contract. Each arm: what it asks and what it leaves, Laws/Loading. Assumes nothing.
use Rattle.values.specs.Source.{source_of, source_size}
use Rattle.values.proofs.Laws.Loading.{constant-asked, variables-asked, stored-asked, loaded_at}
use Rattle.values.proofs.load.load.Goals as goal

pub lay_constant-requires : goal.lay_constant-requires
lay_constant-requires c = constant-asked c.requires c.in-Constant.is

pub lay_variables-requires : goal.lay_variables-requires
lay_variables-requires c = variables-asked c.requires c.in-Variables.is

pub lay_stored-requires : goal.lay_stored-requires
lay_stored-requires c = stored-asked c.requires c.in-Stored.is

pub returns-in-Constant : goal.returns-in-Constant
unfolding source_of source_size
returns-in-Constant c =
    loaded_at c.requires
    c.in-Constant.is
    c.lay_constant.ensures

pub returns-in-Variables : goal.returns-in-Variables
unfolding source_of source_size
returns-in-Variables c =
    loaded_at c.requires
    c.in-Variables.is
    c.lay_variables.ensures

pub returns-in-Stored : goal.returns-in-Stored
unfolding source_of source_size
returns-in-Stored c =
    loaded_at c.requires
    c.in-Stored.is
    c.lay_stored.ensures
