-- The refusals that go by what stands above a line, 7 to 10. Assumes nothing.
use Rattle.std.specs.Prelude.{ℕ, ◌+◌, Bool, false, not, ◌||◌, cond, ltb, eqb, length}
use Rattle.tokens.specs.Ascii.{any}
use Rattle.grammar.specs.Record.{Record, shares, map, input, origin, assign, letting, result, masked, output}
use Rattle.rules.specs.Limits.{most_maps, most_inputs, most_variables, most_statements}
use Rattle.rules.specs.Order.{in_masked}
use Rattle.rules.specs.State.{Block, State}
use Rattle.rules.specs.Scope.{given, missing, repeated, unknown_form, unknown_formula, drawn, let_count}

-- the block that a statement stands in
unfoldable pub block : State → Block
block s = cond (eqb s.stage in_masked) s.masked s.origin

-- 7: the name is already given in its set, or output repeats a name
unfoldable pub repeats : State → Record → Bool
repeats s (shares k) = false
repeats s (map n c columns) = given n s.map_names
repeats s (input n) = given n s.origin.names
repeats s origin = false
repeats s (assign n f) = given n (block s).names
repeats s (letting n f) = given n (block s).names
repeats s (result n) = false
repeats s masked = false
repeats s (output ns) = repeated ns

-- 8: a name or map that is read isn't given above
unfoldable pub reads_unknown : State → Record → Bool
reads_unknown s (shares k) = false
reads_unknown s (map n c columns) = false
reads_unknown s (input n) = false
reads_unknown s origin = false
reads_unknown s (assign n f) = unknown_form (block s).names s.map_names f
reads_unknown s (letting n f) = unknown_formula (block s).names s.map_names f
reads_unknown s (result n) = missing s.origin.names n
reads_unknown s masked = false
reads_unknown s (output ns) = any (missing s.masked.names) ns

-- the statements of both blocks
unfoldable pub statement_count : State → ℕ
statement_count s = length s.origin.statements + length s.masked.statements

-- 9: ninth map, fifth input, seventeenth variable or 257th statement
unfoldable pub exceeds : State → Record → Bool
exceeds s (shares k) = false
exceeds s (map n c columns) = ltb most_maps (length s.maps + 1)
exceeds s (input n) = ltb most_inputs (s.inputs + 1) || ltb most_variables (s.variables + s.shares)
exceeds s origin = false
exceeds s (assign n f) = ltb most_statements (statement_count s + 1) || ltb most_variables (s.variables + drawn f)
exceeds s (letting n f) = ltb most_statements (statement_count s + let_count f)
exceeds s (result n) = false
exceeds s masked = false
exceeds s (output ns) = false

-- 10: output has not k names
unfoldable pub miscounts : State → Record → Bool
miscounts s (shares k) = false
miscounts s (map n c columns) = false
miscounts s (input n) = false
miscounts s origin = false
miscounts s (assign n f) = false
miscounts s (letting n f) = false
miscounts s (result n) = false
miscounts s masked = false
miscounts s (output ns) = not (eqb (length ns) s.shares)
