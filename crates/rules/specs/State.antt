-- What the records above a line have given. Assumes nothing.
use Rattle.std.specs.Prelude.{ℕ, List, []}
use Rattle.rules.specs.declared.types.Statement.{Statement}
use Rattle.rules.specs.declared.types.AffineMap.{AffineMap}
use Rattle.tokens.specs.Token.{Name}
use Rattle.rules.specs.Order.{at_start}

-- A block: the names of its set, each at its value's place, and its statements.
pub record Block : Type 0 where
  pub names : List Name
  pub statements : List Statement

-- what the records above a line have given
pub record State : Type 0 where
  pub stage : ℕ
  pub shares : ℕ
  pub map_names : List Name
  pub maps : List AffineMap
  pub inputs : ℕ
  pub variables : ℕ
  pub origin : Block
  pub masked : Block
  pub result : ℕ
  pub outputs : List ℕ

-- no names and no statements
abbrev nothing : Block
nothing = record { names = []; statements = [] }

-- before the first line
unfoldable pub start : State
start =
    record {
      stage = at_start;
      shares = 0;
      map_names = [];
      maps = [];
      inputs = 0;
      variables = 0;
      origin = nothing;
      masked = nothing;
      result = 0;
      outputs = [];
    }
