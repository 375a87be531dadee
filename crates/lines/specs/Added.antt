-- The numbers that the reading loop holds behind one record more, and when they are within the limits.
-- Assumes nothing.
use Rattle.std.specs.Prelude.{ℕ, ◌+◌, ◌≤◌, ◌<◌, Bool, ◌||◌, cond, ltb, eqb, replicate}
use Rattle.tokens.specs.Limits.{most_shares}
use Rattle.lines.specs.declared.known.Known.{Known}
use Rattle.lines.specs.declared.order.Stage.TheVariants.{Start}
use Rattle.lines.specs.Stage.{stage_of}
use Rattle.lines.specs.declared.step.Put.{Put}
use Rattle.lines.specs.declared.step.Put.TheVariants.{Nothing, Map, Input, Stated, Let}
use Rattle.rules.specs.Order.{in_masked}
use Rattle.rules.specs.Limits.{most_maps, most_inputs, most_variables, most_statements}

-- before the first line
unfoldable pub blank : Known
blank =
    record {
      stage = Start;
      shares = 0;
      mapped = 0;
      inputs = 0;
      variables = 0;
      origin = 0;
      masked = 0;
      wholes = 0;
      parts = 0;
      result = 0;
      outputs = replicate most_shares 0;
      named = 0;
    }

-- other counts: the inputs, the variables, the statements of the origin and of the masked block, and the names of the
-- origin and of the masked set
abbrev pub counting : Known → ℕ → ℕ → ℕ → ℕ → ℕ → ℕ → Known
counting k inputs variables origin masked wholes parts =
    record {
      stage = k.stage;
      shares = k.shares;
      mapped = k.mapped;
      inputs = inputs;
      variables = variables;
      origin = origin;
      masked = masked;
      wholes = wholes;
      parts = parts;
      result = k.result;
      outputs = k.outputs;
      named = k.named;
    }

-- one input more: its name in the origin set, its shares among the variables and in the masked set
abbrev pub input_added : Known → Known
input_added k =
    counting k (k.inputs + 1) (k.variables + k.shares) k.origin k.masked (k.wholes + 1) (k.parts + k.shares)

-- n statements more of the origin block
abbrev pub origin_more : Known → ℕ → Known
origin_more k n = counting k k.inputs k.variables (k.origin + n) k.masked (k.wholes + n) k.parts

-- n statements more of the masked block, with the variables that they draw
abbrev pub masked_more : Known → ℕ → ℕ → Known
masked_more k drawn n =
    counting k k.inputs (k.variables + drawn) k.origin (k.masked + n) k.wholes (k.parts + n)

-- n statements more in the block that they stand in
abbrev pub stated : Known → ℕ → ℕ → Known
stated k drawn n = cond (eqb (stage_of k.stage) in_masked) (masked_more k drawn n) (origin_more k n)

-- one statement more would be one too many, or draw a variable too many
abbrev pub crowded : Known → ℕ → Bool
crowded k drawn = ltb most_statements (k.origin + k.masked + 1) || ltb most_variables (k.variables + drawn)

-- one input more is within the limits
abbrev pub InputFits : Known → Type 0
InputFits k = (k.inputs < most_inputs) × (k.variables + k.shares ≤ most_variables)

-- n statements more are within the limit, and there is one at least
abbrev pub StatementsFit : Known → ℕ → Type 0
StatementsFit k n = (1 ≤ n) × (k.origin + k.masked + n ≤ most_statements)

-- what a record gives is within the limits
abbrev pub Fits : Known → Put → Type 0
Fits k Nothing = Unit {0}
Fits k (Map x f) = k.mapped < most_maps
Fits k (Input x) = InputFits k
Fits k (Stated x st) = StatementsFit k 1
Fits k (Let x f) = StatementsFit k f.count
