-- The unrolled form of a text: each `let` is written as its statements, and every other line stays as it is. Inner
-- values of a block are named q0, q1, .., passing over every name that the block's set holds anywhere in the text.
-- Assumes nothing.
use Rattle.std.specs.Prelude.{ℕ, zero, suc, ◌+◌, ◌-◌, Bool, cond, List, [], ◌∷◌, ◌++◌, eqb, length, take, drop, get_or}
use Rattle.std.specs.Prelude.{Option, None as none, Some as some}
use Rattle.tokens.specs.Ascii.{tab, line_feed}
use Rattle.tokens.specs.Split.{pieces}
use Rattle.tokens.specs.Word.{word_of}
use Rattle.tokens.specs.Token.{Name, Term, name}
use Rattle.tokens.specs.Written.{numbered, joined_by}
use Rattle.grammar.specs.Formula.{Formula, operand, operations}
use Rattle.grammar.specs.Formula as formula
use Rattle.grammar.specs.Record.{set, xor, mul, app, Record, shares, map, input, origin, assign, letting, result}
use Rattle.grammar.specs.Record.{masked, output, field, record_for}
use Rattle.grammar.specs.Written.{written_line}
use Rattle.rules.specs.State.{State, start}
use Rattle.rules.specs.Grown.{at_stage}
use Rattle.rules.specs.Stated.{unnamed}
use Rattle.rules.specs.Scope.{missing, let_count}
use Rattle.rules.specs.Faults.{block}
use Rattle.rules.specs.Read.{Outcome, stop, next, take_line}

-- ---- names for inner values

-- a value that has no name
unfoldable pub is_unnamed : Name → Bool
is_unnamed n = eqb (length n.base) 0

-- how many values of a set have no name
unfoldable pub unnamed_in : List Name → ℕ
unnamed_in [] = 0
unnamed_in (n ∷ ns) = cond (is_unnamed n) 1 0 + unnamed_in ns

-- the elements that pass the test
unfoldable pub kept : {A : Type 0} → (A → Bool) → List A → List A
kept p [] = []
kept p (x ∷ xs) = cond (p x) (x ∷ kept p xs) (kept p xs)

-- the names of q and c numbers from i on
unfoldable pub numbered_from : ℕ → ℕ → List Name
numbered_from i zero = []
numbered_from i (suc c) = numbered i ∷ numbered_from (suc i) c

-- q0, q1, .. without those that the set holds: as many are tried as it has values, so that there is one for each value
-- without a name
unfoldable pub free_names : List Name → List Name
free_names ms = kept (missing ms) (numbered_from 0 (length ms))

-- the names that the c statements of a `let` give: free names from the k-th on, and n for the last
unfoldable pub let_names : List Name → ℕ → ℕ → Name → List Name
let_names free k c n = take (c - 1) (drop k free) ++ n ∷ []

-- ---- the lines of a formula

-- the operand that a formula's value is, the first of its operations giving the name at place `at` of ns
unfoldable pub term_for : List Name → ℕ → Formula → Term
term_for ns at (operand a) = a
term_for ns at (formula.xor a b) = name (get_or ns (at + (operations a + operations b)) unnamed)
term_for ns at (formula.mul a b) = name (get_or ns (at + (operations a + operations b)) unnamed)
term_for ns at (formula.app f a) = name (get_or ns (at + operations a) unnamed)

-- the lines of its operations, left part first, inner before outer
unfoldable pub lines_for : List Name → ℕ → Formula → List (List ℕ)
lines_for ns at (operand a) = []
lines_for ns at (formula.xor a b) =
    lines_for ns at a ++ lines_for ns (at + operations a) b
    ++ written_line (get_or ns (at + (operations a + operations b)) unnamed)
    (xor (term_for ns at a) (term_for ns (at + operations a) b)) ∷ []
lines_for ns at (formula.mul a b) =
    lines_for ns at a ++ lines_for ns (at + operations a) b
    ++ written_line (get_or ns (at + (operations a + operations b)) unnamed)
    (mul (term_for ns at a) (term_for ns (at + operations a) b)) ∷ []
lines_for ns at (formula.app f a) =
    lines_for ns at a ++ written_line (get_or ns (at + operations a) unnamed) (app f (term_for ns at a)) ∷ []

-- the lines of a `let` whose statements give the names ns: an operand alone is a `set`
unfoldable pub let_lines : List Name → Formula → List (List ℕ)
let_lines ns (operand a) = written_line (get_or ns 0 unnamed) (set a) ∷ []
let_lines ns (formula.xor a b) = lines_for ns 0 (formula.xor a b)
let_lines ns (formula.mul a b) = lines_for ns 0 (formula.mul a b)
let_lines ns (formula.app f a) = lines_for ns 0 (formula.app f a)

-- ---- texts

-- what a line leads to; what was known, where it is refused
unfoldable pub led : State → Outcome → State
led s (stop e) = s
led s (next t) = t

-- what is known behind the lines that follow line n
unfoldable pub behind_lines : State → ℕ → List (List ℕ) → State
behind_lines s n [] = s
behind_lines s n (l ∷ ls) = behind_lines (led s (take_line s (n + 1) l)) (n + 1) ls

-- the record that a line makes, if it makes one
unfoldable pub record_of : List ℕ → Option Record
record_of l = let ps = pieces tab l in record_for (word_of (field 0 ps)) ps

-- the names that the statements of a `let` give, behind what is known in s; t is what is known behind the text
unfoldable pub names_for : State → State → Name → Formula → List Name
names_for t s n f =
    let_names (free_names (block (at_stage s.stage t)).names) (unnamed_in (block s).names) (let_count f) n

-- the lines of a line that makes a record or none
unfoldable pub lines_of : State → State → List ℕ → Option Record → List (List ℕ)
lines_of t s l none = l ∷ []
lines_of t s l (some (shares k)) = l ∷ []
lines_of t s l (some (map n c columns)) = l ∷ []
lines_of t s l (some (input n)) = l ∷ []
lines_of t s l (some origin) = l ∷ []
lines_of t s l (some (assign n f)) = l ∷ []
lines_of t s l (some (letting n f)) = let_lines (names_for t s n f) f
lines_of t s l (some (result n)) = l ∷ []
lines_of t s l (some masked) = l ∷ []
lines_of t s l (some (output ns)) = l ∷ []

-- the lines of the lines that follow line n, behind what is known in s
unfoldable pub unrolled_lines : State → State → ℕ → List (List ℕ) → List (List ℕ)
unrolled_lines t s n [] = []
unrolled_lines t s n (l ∷ ls) =
    lines_of t s l (record_of l) ++ unrolled_lines t (led s (take_line s (n + 1) l)) (n + 1) ls

-- the unrolled form of a text
unfoldable pub unrolled : List ℕ → List ℕ
unrolled s =
    let ls = pieces line_feed s in
    joined_by line_feed (unrolled_lines (behind_lines start 0 ls) start 0 ls)
