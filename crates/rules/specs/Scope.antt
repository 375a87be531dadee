-- Names looked up in a set, and what a statement or a formula computes by the places of what it reads. Assumes nothing.
use Rattle.std.specs.Prelude.{ℕ, zero, suc, ◌+◌, Bool, false, not, ◌||◌, List, [], ◌∷◌, ◌++◌, ltb, length}
use Rattle.rules.specs.declared.types.Operand.{Operand}
use Rattle.rules.specs.declared.types.Operand.TheVariants.{Place, Byte}
use Rattle.rules.specs.declared.types.Op.{Op}
use Rattle.rules.specs.declared.types.Op.TheVariants.{Set, Xor, Mul, App, Rand}
use Rattle.tokens.specs.Split.{until}
use Rattle.tokens.specs.Token.{Name, same_name, Term, name, byte}
use Rattle.grammar.specs.Formula.{Formula, operand, operations}
use Rattle.grammar.specs.Formula as formula
use Rattle.grammar.specs.Record.{Form, set, xor, mul, app, rand}

-- the place of a name in a set: that of the first that is the same, and the set's size where none is
unfoldable pub place_of : Name → List Name → ℕ
place_of n ms = until (same_name n) ms

-- the name is given in the set
unfoldable pub given : Name → List Name → Bool
given n ms = ltb (place_of n ms) (length ms)

-- the name is not given in the set
unfoldable pub missing : List Name → Name → Bool
missing ms n = not (given n ms)

-- some name of the list stands before its place, in the list or among those seen
unfoldable pub repeated_in : List Name → List Name → Bool
repeated_in seen [] = false
repeated_in seen (n ∷ ns) = given n seen || repeated_in (seen ++ n ∷ []) ns

-- some name stands in the list twice
unfoldable pub repeated : List Name → Bool
repeated ns = repeated_in [] ns

-- an operand that is no name given in the set
unfoldable pub unknown_term : List Name → Term → Bool
unknown_term ms (name n) = missing ms n
unknown_term ms (byte b) = false

-- what a statement reads is not all given, among the names of its set and of the maps
unfoldable pub unknown_form : List Name → List Name → Form → Bool
unknown_form ms maps (set a) = unknown_term ms a
unknown_form ms maps (xor a b) = unknown_term ms a || unknown_term ms b
unknown_form ms maps (mul a b) = unknown_term ms a || unknown_term ms b
unknown_form ms maps (app f a) = missing maps f || unknown_term ms a
unknown_form ms maps rand = false

-- what a formula reads is not all given, among the names of its set and of the maps
unfoldable pub unknown_formula : List Name → List Name → Formula → Bool
unknown_formula ms maps (operand a) = unknown_term ms a
unknown_formula ms maps (formula.xor a b) = unknown_formula ms maps a || unknown_formula ms maps b
unknown_formula ms maps (formula.mul a b) = unknown_formula ms maps a || unknown_formula ms maps b
unknown_formula ms maps (formula.app f a) = missing maps f || unknown_formula ms maps a

-- the variables that a statement draws
unfoldable pub drawn : Form → ℕ
drawn (set a) = 0
drawn (xor a b) = 0
drawn (mul a b) = 0
drawn (app f a) = 0
drawn rand = 1

-- how many statements a `let` counts as: one for each operation, and one for an operand alone
unfoldable pub let_count : Formula → ℕ
let_count (operand a) = 1
let_count (formula.xor a b) = operations (formula.xor a b)
let_count (formula.mul a b) = operations (formula.mul a b)
let_count (formula.app f a) = operations (formula.app f a)

-- an operand: its value's place, or its byte
unfoldable pub operand_in : List Name → Term → Operand
operand_in ms (name n) = Place (place_of n ms)
operand_in ms (byte b) = Byte b

-- what a statement computes; v is the next variable
unfoldable pub op_in : List Name → List Name → ℕ → Form → Op
op_in ms maps v (set a) = Set (operand_in ms a)
op_in ms maps v (xor a b) = Xor (operand_in ms a) (operand_in ms b)
op_in ms maps v (mul a b) = Mul (operand_in ms a) (operand_in ms b)
op_in ms maps v (app f a) = App (place_of f maps) (operand_in ms a)
op_in ms maps v rand = Rand v

-- the operand that a formula's value is, the first of its operations giving the value at place `at`
unfoldable pub value_of : List Name → ℕ → Formula → Operand
value_of ms at (operand a) = operand_in ms a
value_of ms at (formula.xor a b) = Place (at + (operations a + operations b))
value_of ms at (formula.mul a b) = Place (at + (operations a + operations b))
value_of ms at (formula.app f a) = Place (at + operations a)

-- the operations of a formula, the first giving the value at place `at`
unfoldable pub compiled : List Name → List Name → ℕ → Formula → List Op
compiled ms maps at (operand a) = []
compiled ms maps at (formula.xor a b) =
    compiled ms maps at a ++ compiled ms maps (at + operations a) b
    ++ Xor (value_of ms at a) (value_of ms (at + operations a) b) ∷ []
compiled ms maps at (formula.mul a b) =
    compiled ms maps at a ++ compiled ms maps (at + operations a) b
    ++ Mul (value_of ms at a) (value_of ms (at + operations a) b) ∷ []
compiled ms maps at (formula.app f a) = compiled ms maps at a ++ App (place_of f maps) (value_of ms at a) ∷ []

-- the operations of a `let`: an operand alone counts as a `set`
unfoldable pub let_ops : List Name → List Name → ℕ → Formula → List Op
let_ops ms maps at (operand a) = Set (operand_in ms a) ∷ []
let_ops ms maps at (formula.xor a b) = compiled ms maps at (formula.xor a b)
let_ops ms maps at (formula.mul a b) = compiled ms maps at (formula.mul a b)
let_ops ms maps at (formula.app f a) = compiled ms maps at (formula.app f a)

-- x.i, x.(i+1) and on, k of them
unfoldable pub share_names : Name → ℕ → ℕ → List Name
share_names x i zero = []
share_names x i (suc k) = record { base = x.base; part = i } ∷ share_names x (i + 1) k
