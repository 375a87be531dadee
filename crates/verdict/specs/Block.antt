-- What the parts of run leave in the bytes that they are lent, and what they ask of them.
-- Assumes nothing.
use Rattle.std.specs.Prelude.{◌≡◌, ℕ, ◌+◌, ◌-◌, ◌≤◌, List, map, length, take, drop}
use Rattle.text.specs.declared.routine.Routine as code
use Rattle.text.specs.Routine.{maps_of}
use Rattle.rules.specs.Limits.{most_maps, most_statements}
use Rattle.verdict.specs.Lists.{lots}
use Rattle.verdict.specs.Meaning.{values, joined}
use Rattle.verdict.specs.Instances.{bytes}

-- the elements from..to of a list
abbrev pub part : {X : Type 0} → ℕ → ℕ → List X → List X
part from to l = take (to - from) (drop from l)

-- the inputs' values, each the XOR of its k shares
abbrev pub input_values : ℕ → ℕ → ℕ → List ℕ → List ℕ
input_values m k inputs xs = map (joined (bytes m)) (lots k inputs xs)

-- the n values that a block begins with stand at the front
pub record Begun (n : ℕ) (vs entry exit : List ℕ) : Type 0 where
  pub sized : length exit ≡ length entry
  pub begun : take n exit ≡ vs

-- there is room for the values of the statements from..to, behind n others
pub record Roomy (r : code.Routine) (from to n : ℕ) (vs : List ℕ) : Type 0 where
  pub maps : r.mapped ≤ most_maps
  pub order : from ≤ to
  pub statements : to ≤ most_statements
  pub room : n + (to - from) ≤ length vs

-- behind the n values that a block begins with stand those of the statements from..to; xs are the variables
pub record Filled (m : ℕ) (r : code.Routine) (from to n : ℕ) (xs entry exit : List ℕ) : Type 0 where
  pub sized : length exit ≡ length entry
  pub filled : take (n + (to - from)) exit
      ≡ values (bytes m) (maps_of r) xs (take n entry) (part from to r.statements)
