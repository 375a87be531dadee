-- The numbers of a refusal, or the variables of a routine. Assumes nothing.
use borrow.Author.Rules.{rules}
use Rattle.text.specs.Reading.{refusal_of, line_of}
use Rattle.text.specs.Routine.{routine_of}
use Rattle.outside.specs.Numbers.{variables_of, reading_numbers}
use Rattle.outside.proofs.reading_numbers.Goals as goal

pub returns-in-Err : goal.returns-in-Err
unfolding reading_numbers variables_of refusal_of line_of
returns-in-Err c = search rules

pub returns-in-Ok : goal.returns-in-Ok
unfolding reading_numbers variables_of refusal_of line_of routine_of
returns-in-Ok c = search rules
