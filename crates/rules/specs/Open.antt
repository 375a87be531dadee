-- One name that opens every definition of reading, for examples that are computed: `unfolding text_open`.
-- Assumes nothing.
use Rattle.grammar.specs.Open.{grammar_open}
use Rattle.rules.specs.State.{start}
use Rattle.rules.specs.Grown.{at_stage, with_shares, with_map, with_input}
use Rattle.rules.specs.Stated.{with_origin, with_masked, with_origin_all}
use Rattle.rules.specs.Grown.{with_result, with_outputs}
use Rattle.rules.specs.Stated.{with_masked_all}
use Rattle.rules.specs.Scope.{place_of, given, missing, repeated, repeated_in, unknown_term}
use Rattle.rules.specs.Faults.{block, repeats}
use Rattle.rules.specs.Scope.{unknown_form, unknown_formula, drawn, let_count}
use Rattle.rules.specs.Faults.{reads_unknown, statement_count, exceeds}
use Rattle.rules.specs.Scope.{operand_in, op_in, value_of, compiled, let_ops, share_names}
use Rattle.rules.specs.Faults.{miscounts}
use Rattle.rules.specs.Added.{added}
use Rattle.rules.specs.Read.{first_of, unless, take_record, take_pieces, take_line, routine, take_last, follow}
use Rattle.rules.specs.Read.{take_lines, read_text}

-- opens every definition of reading
unfoldable pub text_open : Unit {0}
unfolding grammar_open start at_stage with_shares with_map with_input with_origin with_masked with_origin_all with_masked_all
    with_result with_outputs place_of given missing repeated repeated_in block repeats unknown_term unknown_form
    unknown_formula reads_unknown drawn statement_count let_count exceeds miscounts operand_in op_in value_of compiled let_ops
    share_names added first_of unless take_record take_pieces take_line routine take_last follow take_lines read_text
text_open = tt
