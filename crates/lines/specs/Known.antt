-- What the reading loop holds between two lines, and what it stands for in a text. Assumes nothing.
use Rattle.std.specs.Prelude.{ℕ, ◌+◌, ◌≤◌, ◌<◌, ◌≡◌, cond, List, eqb, length, take, drop}
use Rattle.tokens.specs.Limits.{most_shares}
use Rattle.rules.specs.declared.types.Statement.{Statement}
use Rattle.rules.specs.declared.types.AffineMap.{AffineMap}
use Rattle.grammar.specs.declared.line.NameRef.{NameRef}
use Rattle.tokens.specs.Token.{Name}
use Rattle.lines.specs.declared.known.Known.{Known}
use Rattle.lines.specs.Stage.{stage_of}
use Rattle.rules.specs.Order.{in_masked}
use Rattle.rules.specs.State.{State}
use Rattle.rules.specs.Limits.{most_maps, most_inputs, most_variables, most_statements, most_entries}
use Rattle.rules.specs.Limits.{origin_from, masked_from}
use Rattle.lookup.specs.Names.{listed}

-- the arrays of the reading loop, beside its table of names
pub record Arrays : Type 0 where
  pub maps : List AffineMap
  pub statements : List Statement

-- the same from its parts
abbrev pub arrays : List AffineMap → List Statement → Arrays
arrays maps statements = record { maps = maps; statements = statements }

-- all that the reading loop holds: the table of names, the numbers and the arrays
pub record Kept : Type 0 where
  pub names : List NameRef
  pub known : Known
  pub arrays : Arrays

-- the same from its parts
abbrev pub kept : List NameRef → Known → Arrays → Kept
kept t k a = record { names = t; known = k; arrays = a }

-- the names of the maps, in the table t of the text s
abbrev pub map_names : List ℕ → List NameRef → Known → List Name
map_names s t k = listed s t 0 k.mapped

-- the names of the origin set
abbrev pub origin_names : List ℕ → List NameRef → Known → List Name
origin_names s t k = listed s t origin_from k.wholes

-- the names of the masked set
abbrev pub masked_names : List ℕ → List NameRef → Known → List Name
masked_names s t k = listed s t masked_from k.parts

-- the names of the block that a statement stands in
abbrev pub block_names : List ℕ → List NameRef → Known → List Name
block_names s t k = cond (eqb (stage_of k.stage) in_masked) (masked_names s t k) (origin_names s t k)

-- the state that it stands for
unfoldable pub state_in : List ℕ → Kept → State
state_in s h =
    record {
      stage = stage_of h.known.stage;
      shares = h.known.shares;
      map_names = map_names s h.names h.known;
      maps = take h.known.mapped h.arrays.maps;
      inputs = h.known.inputs;
      variables = h.known.variables;
      origin =
          record {
            names = origin_names s h.names h.known;
            statements = take h.known.origin h.arrays.statements;
          };
      masked =
          record {
            names = masked_names s h.names h.known;
            statements = take h.known.masked (drop h.known.origin h.arrays.statements);
          };
      result = h.known.result;
      outputs = take h.known.named h.known.outputs;
    }

-- ---- what holds between lines

-- the counts are within their limits
pub record Sound (k : Known) : Type 0 where
  pub shares : k.shares ≤ 255
  pub mapped : k.mapped ≤ most_maps
  pub inputs : k.inputs ≤ most_inputs
  pub variables : k.variables ≤ most_variables
  pub statements : k.origin + k.masked ≤ most_statements
  pub named : k.named ≤ most_shares
  pub wholes : k.wholes ≡ k.inputs + k.origin
  pub parts : k.parts ≤ k.variables + k.masked
  pub apart : stage_of k.stage < in_masked → k.masked ≡ 0

-- the table and the arrays have room up to their limits
pub record Sized (h : Kept) : Type 0 where
  pub names : length h.names ≡ most_entries
  pub maps : length h.arrays.maps ≡ most_maps
  pub statements : length h.arrays.statements ≡ most_statements
