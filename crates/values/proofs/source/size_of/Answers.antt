-- Each arm by computing. Assumes nothing.
use Rattle.std.proofs.Common.{◌∙◌, rules}
use Rattle.values.specs.Source.{source_size}
use Rattle.values.proofs.Laws.Sources.{one_if-test}
use Rattle.values.proofs.source.size_of.Goals as goal

pub returns-in-Constant : goal.returns-in-Constant
unfolding source_size
returns-in-Constant c = rw c.in-Constant.is (c.from.ensures ∙ one_if-test c.in-Constant.c)

pub returns-in-Variables : goal.returns-in-Variables
unfolding source_size
returns-in-Variables c = search rules

pub returns-in-Stored : goal.returns-in-Stored
unfolding source_size
returns-in-Stored c = search rules
