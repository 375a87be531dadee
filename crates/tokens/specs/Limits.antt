-- The limits that a line alone can break, each number once. Assumes nothing.
use Rattle.std.specs.Prelude.{ℕ}

-- the most bytes of a name before its dot: a letter and up to 11 more
abbrev pub most_letters : ℕ
most_letters = 12

-- the most shares, and the most names of an output line
abbrev pub most_shares : ℕ
most_shares = 8

-- the columns of a map
abbrev pub column_count : ℕ
column_count = 8

-- the deepest nesting of a formula
abbrev pub most_depth : ℕ
most_depth = 8

-- stands for the digit of a name without a dot part
abbrev pub no_part : ℕ
no_part = 8
