-- The ways in which a statement, or those of a formula, add to what the records above a line have given.
-- Assumes nothing.
use Rattle.std.specs.Prelude.{ℕ, ◌+◌, ◌-◌, List, [], ◌∷◌, ◌++◌, length, replicate}
use Rattle.rules.specs.declared.types.Statement.{Statement}
use Rattle.tokens.specs.Token.{Name}
use Rattle.tokens.specs.Limits.{no_part}
use Rattle.rules.specs.State.{Block, State}

-- a statement that gives one name
abbrev pub stating : Name → Statement → Block → Block
stating n st b = record { names = b.names ++ n ∷ []; statements = b.statements ++ st ∷ [] }

-- the name of a value that has none: no field spells it
abbrev pub unnamed : Name
unnamed = record { base = []; part = no_part }

-- the statements of a formula: the last gives the name, and the values of those before it have none
abbrev pub stating_all : Name → List Statement → Block → Block
stating_all n sts b =
    record {
      names = b.names ++ (replicate (length sts - 1) unnamed ++ n ∷ []);
      statements = b.statements ++ sts;
    }

-- another origin block
abbrev pub origin_as : Block → State → State
origin_as b s =
    record {
      stage = s.stage;
      shares = s.shares;
      map_names = s.map_names;
      maps = s.maps;
      inputs = s.inputs;
      variables = s.variables;
      origin = b;
      masked = s.masked;
      result = s.result;
      outputs = s.outputs;
    }

-- another masked block, v variables in all
abbrev pub masked_as : Block → ℕ → State → State
masked_as b v s =
    record {
      stage = s.stage;
      shares = s.shares;
      map_names = s.map_names;
      maps = s.maps;
      inputs = s.inputs;
      variables = v;
      origin = s.origin;
      masked = b;
      result = s.result;
      outputs = s.outputs;
    }

-- one more statement of the origin block
unfoldable pub with_origin : Name → Statement → State → State
with_origin n st s = origin_as (stating n st s.origin) s

-- one more statement of the masked block, with the variables that it draws
unfoldable pub with_masked : ℕ → Name → Statement → State → State
with_masked drawn n st s = masked_as (stating n st s.masked) (s.variables + drawn) s

-- the statements of a formula in the origin block
unfoldable pub with_origin_all : Name → List Statement → State → State
with_origin_all n sts s = origin_as (stating_all n sts s.origin) s

-- the statements of a formula in the masked block
unfoldable pub with_masked_all : Name → List Statement → State → State
with_masked_all n sts s = masked_as (stating_all n sts s.masked) s.variables s
