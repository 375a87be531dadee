-- A `let` between two lines: its field, and its statements and names as they are stored. Assumes nothing.
use Rattle.std.specs.Prelude.{ℕ, zero, suc, ◌+◌, ◌-◌, ◌≤◌, ◌≡◌, Bool, List, [], length, take, drop}
use Rattle.std.specs.Prelude.{Option, None as none, Some as some}
use Rattle.tokens.specs.Limits.{no_part, most_depth}
use Rattle.tokens.specs.Token.{Name}
use Rattle.grammar.specs.declared.line.NameRef.{NameRef}
use Rattle.grammar.specs.Formula.{Formula, depth, operations, read_formula}
use Rattle.rules.specs.declared.types.Op.{Op}
use Rattle.rules.specs.declared.types.Statement.{Statement}
use Rattle.lines.specs.declared.step.Letting.{Letting}
use Rattle.rules.specs.Limits.{most_statements}
use Rattle.rules.specs.Scope.{unknown_formula, let_count, let_ops}
use Rattle.rules.specs.Added.{at_line}
use Rattle.lookup.specs.Names.{put}
use Rattle.lookup.specs.Coded.{written}

-- the field that holds the formula
abbrev pub field_of : List ℕ → Letting → List ℕ
field_of s f = take f.len (drop f.at s)

-- the statements of a formula, by the names of its set and of the maps; n is its line
abbrev pub statements_of : ℕ → List Name → List Name → Option Formula → List Statement
statements_of n ms maps none = []
statements_of n ms maps (some e) = at_line n (let_ops ms maps (length ms) e)

-- the entry of a value that has no name
abbrev pub nameless : NameRef
nameless = record { at = 0; len = 0; part = no_part }

-- a table with n entries without a name from `at` on
unfoldable pub put_nameless : List NameRef → ℕ → ℕ → List NameRef
put_nameless t at zero = t
put_nameless t at (suc n) = put (put_nameless t at n) (at + n) nameless

-- a table with the n values of a formula from `at` on: the last has the name x
abbrev pub put_let : List NameRef → ℕ → NameRef → ℕ → List NameRef
put_let t at x n = put (put_nameless t at (n - 1)) (at + (n - 1)) x

-- there is a formula, and room for its operations
abbrev pub LetRoom : Option Formula → Type 0
LetRoom none = ⊥
LetRoom (some e) = operations e ≤ most_statements

-- whether the formula reads what is not given, and its operations written from the first entry on
pub record LetIs (ms maps : List Name) (entry exit : List Op) (r : Bool) (e : Formula) : Type 0 where
  pub unknown : r ≡ unknown_formula ms maps e
  pub codes : exit ≡ written entry 0 (let_ops ms maps (length ms) e)

-- the same of a formula that there is
abbrev pub LetWritten : List Name → List Name → List Op → List Op → Bool → Option Formula → Type 0
LetWritten ms maps entry exit r none = Unit {0}
LetWritten ms maps entry exit r (some e) = LetIs ms maps entry exit r e

-- the field holds a formula of so many statements, which nests no deeper than a text may
pub record Shallow (s : List ℕ) (f : Letting) : Type 0 where
  pub formula : Formula
  pub read : read_formula (field_of s f) ≡ some formula
  pub inside : f.at + f.len ≤ length s
  pub count : f.count ≡ let_count formula
  pub shallow : depth formula ≤ most_depth
