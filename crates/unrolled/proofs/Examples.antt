-- A worked text and its unrolled form, by computation: in the origin block q0 and q2 are given, so that inner values
-- are q1, q3, q4 and q5; in the masked block no name stands in the way, and q0 is the first.
-- Assumes nothing.
use mathlib.Core.Path.{◌≡◌, refl}
use Prim.Native.Nat.{ℕ}
use mathlib.Core.List.{List, ◌++◌}
use Rattle.tokens.specs.Ascii.{ascii}
use Rattle.tokens.specs.Written.{digits, decimal, hex_of, written_name, written_term, numbered, joined_by}
use Rattle.grammar.specs.Formula.{operations, depth, operation_of, operation_at, past, closed, map_at, operand_at}
use Rattle.grammar.specs.Formula.{pair_at, level_for, level, formula_at, parsed, whole, read_formula}
use Rattle.grammar.specs.Record.{nests}
use Rattle.grammar.specs.Written.{written_fields, written_line}
use Rattle.rules.specs.Open.{text_open}
use Rattle.rules.specs.Stated.{with_origin_all, with_masked_all}
use Rattle.rules.specs.Scope.{unknown_formula, let_count, value_of, compiled, let_ops}
use Rattle.unrolled.specs.Unrolled.{is_unnamed, unnamed_in, kept, numbered_from, free_names, let_names, term_for}
use Rattle.unrolled.specs.Unrolled.{lines_for, let_lines, led, behind_lines, record_of, names_for, lines_of}
use Rattle.unrolled.specs.Unrolled.{unrolled_lines, unrolled}

-- what both texts begin with
abbrev front : List ℕ
front = ascii "shares\t1\nmap\tf\t63\t01\t02\t04\t08\t10\t20\t40\t80\ninput\ta\norigin\nset\tq0\t#01\n"

-- the text
abbrev text : List ℕ
text =
    front ++ ascii "let\tc\txor(mul(a,#0f),app(f,xor(a,q0)))\nlet\tq2\ta\nlet\td\tmul(mul(c,q2),c)\n"
    ++ ascii "result\td\nmasked\nlet\tc\txor(a.0,mul(a.0,a.0))\noutput\tc\n"

-- its unrolled form
abbrev form : List ℕ
form =
    front ++ ascii "mul\tq1\ta\t#0f\nxor\tq3\ta\tq0\napp\tq4\tf\tq3\nxor\tc\tq1\tq4\nset\tq2\ta\n"
    ++ ascii "mul\tq5\tc\tq2\nmul\td\tq5\tc\nresult\td\nmasked\nmul\tq0\ta.0\ta.0\nxor\tc\ta.0\tq0\noutput\tc\n"

-- the unrolled form is as stated
pub unrolled_as_stated : unrolled text ≡ form
unfolding text_open digits decimal hex_of written_name written_term numbered joined_by written_fields written_line operations
    depth operation_of operation_at past closed map_at operand_at pair_at level_for level formula_at parsed whole read_formula
    nests with_origin_all with_masked_all unknown_formula let_count value_of compiled let_ops is_unnamed unnamed_in kept
    numbered_from free_names let_names term_for lines_for let_lines led behind_lines record_of names_for lines_of unrolled_lines
    unrolled
unrolled_as_stated = refl
