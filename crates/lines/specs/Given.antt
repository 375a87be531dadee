-- The statements that a record gives: its own, or those of a formula, whose operations stand in an array.
-- Assumes nothing.
use Rattle.std.specs.Prelude.{ℕ, zero, suc, ◌+◌, List, [], ◌∷◌, get_or}
use Rattle.rules.specs.declared.types.Statement.{Statement}
use Rattle.rules.specs.declared.types.Op.TheVariants.{Set, Rand}
use Rattle.rules.specs.declared.types.Op.{Op}
use Rattle.rules.specs.declared.types.Operand.TheVariants.{Place}
use Rattle.lines.specs.declared.step.Put.{Put}
use Rattle.lines.specs.declared.step.Put.TheVariants.{Nothing, Map, Input, Stated, Let}

-- how many statements a record gives
abbrev pub given_count : Put → ℕ
given_count Nothing = 0
given_count (Map x f) = 0
given_count (Input x) = 0
given_count (Stated x st) = 1
given_count (Let x f) = f.count

-- what stands for no statement
abbrev pub no_statement : Statement
no_statement = record { op = Rand 0; line = 0 }

-- statement i of those that it gives; a formula's has the operation that is entry i
abbrev pub given_at : List Op → Put → ℕ → Statement
given_at codes Nothing i = no_statement
given_at codes (Map x f) i = no_statement
given_at codes (Input x) i = no_statement
given_at codes (Stated x st) i = st
given_at codes (Let x f) i = record { op = get_or codes i (Set (Place 0)); line = f.line }

-- m of them, from i on
unfoldable pub given_from : List Op → Put → ℕ → ℕ → List Statement
given_from codes p i zero = []
given_from codes p i (suc m) = given_at codes p i ∷ given_from codes p (i + 1) m
