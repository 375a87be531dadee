-- The code's routine: what it stands for, what holds of that of an accepted text, and the one of no text.
-- Assumes nothing.
use Rattle.std.specs.Prelude.{ℕ, ◌+◌, ◌*◌, ◌≤◌, List, take, drop, replicate}
use Rattle.rules.specs.declared.types.Operand.TheVariants.{Byte}
use Rattle.rules.specs.declared.types.Op.TheVariants.{Set}
use Rattle.rules.specs.declared.types.Statement.{Statement}
use Rattle.rules.specs.declared.types.AffineMap.{AffineMap}
use Rattle.text.specs.declared.routine.Routine as code
use Rattle.rules.specs.Limits.{most_maps, most_inputs, most_variables, most_statements}
use Rattle.rules.specs.Read.{Routine}
use Rattle.tokens.specs.Limits.{most_shares, column_count}

-- ---- what it stands for: the parts of the arrays that are in use

-- the maps
unfoldable pub maps_of : code.Routine → List AffineMap
maps_of r = take r.mapped r.maps

-- the statements of the origin block
unfoldable pub origin_of : code.Routine → List Statement
origin_of r = take r.origin r.statements

-- the statements of the masked block
unfoldable pub masked_of : code.Routine → List Statement
masked_of r = take r.masked (drop r.origin r.statements)

-- the places of the outputs
unfoldable pub outputs_of : code.Routine → List ℕ
outputs_of r = take r.named r.outputs

-- the routine
unfoldable pub routine_of : code.Routine → Routine
routine_of r =
    record {
      shares = r.shares;
      maps = maps_of r;
      inputs = r.inputs;
      variables = r.variables;
      origin = origin_of r;
      result = r.result;
      masked = masked_of r;
      outputs = outputs_of r;
      output_line = r.line;
    }

-- the counts are within their limits, and the inputs' shares are variables
pub record Counted (r : code.Routine) : Type 0 where
  pub maps : r.mapped ≤ most_maps
  pub inputs : r.inputs ≤ most_inputs
  pub fits : r.inputs * r.shares ≤ r.variables
  pub room : r.variables ≤ most_variables
  pub statements : r.origin + r.masked ≤ most_statements
  pub outputs : r.named ≤ most_shares

-- nothing is read yet
unfoldable pub nothing : code.Routine
nothing =
    record {
      shares = 0;
      maps = replicate most_maps (record { constant = 0; columns = replicate column_count 0 });
      mapped = 0;
      inputs = 0;
      variables = 0;
      statements = replicate most_statements (record { op = Set (Byte 0); line = 0 });
      origin = 0;
      masked = 0;
      result = 0;
      outputs = replicate most_shares 0;
      named = 0;
      line = 0;
    }
