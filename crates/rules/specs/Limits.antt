-- The limits of a text, each number once. Assumes nothing.
use Rattle.std.specs.Prelude.{ℕ, ◌+◌}

-- the longest text that is read
abbrev pub most_bytes : ℕ
most_bytes = 16384

-- the most maps
abbrev pub most_maps : ℕ
most_maps = 8

-- the most inputs
abbrev pub most_inputs : ℕ
most_inputs = 4

-- the most variables: the inputs' shares and the rands
abbrev pub most_variables : ℕ
most_variables = 16

-- the most statements of both blocks together
abbrev pub most_statements : ℕ
most_statements = 256

-- the most names of a set: the shares of inputs are variables, and each statement gives one more
abbrev pub most_names : ℕ
most_names = most_variables + most_statements

-- where the names of the origin set begin in the table of names; those of the maps stand first
abbrev pub origin_from : ℕ
origin_from = most_maps

-- where the names of the masked set begin in the table of names
abbrev pub masked_from : ℕ
masked_from = origin_from + most_names

-- the most names of the table
abbrev pub most_entries : ℕ
most_entries = masked_from + most_names
