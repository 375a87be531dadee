-- The ways in which a record other than a statement adds to what the records above a line have given. Assumes nothing.
use Rattle.std.specs.Prelude.{ℕ, ◌+◌, List, [], ◌∷◌, ◌++◌}
use Rattle.rules.specs.declared.types.AffineMap.{AffineMap}
use Rattle.tokens.specs.Token.{Name}
use Rattle.rules.specs.State.{Block, State}

-- names given in a set, at the next places
abbrev pub giving : List Name → Block → Block
giving ns b = record { names = b.names ++ ns; statements = b.statements }

-- another stage
unfoldable pub at_stage : ℕ → State → State
at_stage k s =
    record {
      stage = k;
      shares = s.shares;
      map_names = s.map_names;
      maps = s.maps;
      inputs = s.inputs;
      variables = s.variables;
      origin = s.origin;
      masked = s.masked;
      result = s.result;
      outputs = s.outputs;
    }

-- the share count
unfoldable pub with_shares : ℕ → State → State
with_shares k s =
    record {
      stage = s.stage;
      shares = k;
      map_names = s.map_names;
      maps = s.maps;
      inputs = s.inputs;
      variables = s.variables;
      origin = s.origin;
      masked = s.masked;
      result = s.result;
      outputs = s.outputs;
    }

-- one more map
unfoldable pub with_map : Name → AffineMap → State → State
with_map n m s =
    record {
      stage = s.stage;
      shares = s.shares;
      map_names = s.map_names ++ n ∷ [];
      maps = s.maps ++ m ∷ [];
      inputs = s.inputs;
      variables = s.variables;
      origin = s.origin;
      masked = s.masked;
      result = s.result;
      outputs = s.outputs;
    }

-- one more input: its name in the origin set, those of its shares in the masked set, and its variables
unfoldable pub with_input : Name → List Name → State → State
with_input x parts s =
    record {
      stage = s.stage;
      shares = s.shares;
      map_names = s.map_names;
      maps = s.maps;
      inputs = s.inputs + 1;
      variables = s.variables + s.shares;
      origin = giving (x ∷ []) s.origin;
      masked = giving parts s.masked;
      result = s.result;
      outputs = s.outputs;
    }

-- the place of the result
unfoldable pub with_result : ℕ → State → State
with_result p s =
    record {
      stage = s.stage;
      shares = s.shares;
      map_names = s.map_names;
      maps = s.maps;
      inputs = s.inputs;
      variables = s.variables;
      origin = s.origin;
      masked = s.masked;
      result = p;
      outputs = s.outputs;
    }

-- the places of the outputs
unfoldable pub with_outputs : List ℕ → State → State
with_outputs ps s =
    record {
      stage = s.stage;
      shares = s.shares;
      map_names = s.map_names;
      maps = s.maps;
      inputs = s.inputs;
      variables = s.variables;
      origin = s.origin;
      masked = s.masked;
      result = s.result;
      outputs = ps;
    }
