-- A record that may stand here stands before the text's end, and leads to a stage before the masked block only from
-- one.
-- Assumes nothing.
use Prim.Native.Nat.{ℕ, ◌≤◌, ◌<◌}
use native.Mathlib.Omega.{arith}
use mathlib.Core.Path.{◌≡◌, sym}
use mathlib.Core.Bool.{true, ◌||◌}
use lib.Dec.{eqb}
use borrow.Author.Tests.{eqb-true}
use Rattle.tokens.specs.declared.word.Word.{Word}
use Rattle.tokens.specs.declared.word.Word.TheVariants.{Shares, Map, Input, Origin, Set, Xor, Mul, App, Let, Rand}
use Rattle.tokens.specs.declared.word.Word.TheVariants.{Result, Masked, Output, Unknown}
use Rattle.tokens.proofs.Laws.Flags.{true-false}
use Rattle.rules.specs.Order.{may_stand, stage_after, in_masked}
use Rattle.rules.proofs.Laws.Reads.{one_of, at_most}

two_le : (stage a b n : ℕ) → a ≤ n → b ≤ n → eqb stage a || eqb stage b ≡ true → stage ≤ n
two_le stage a b n h k e = at_most stage a b n h k (one_of stage a b e)

-- no record may stand behind output
pub stands_le : (w : Word) (stage : ℕ) → may_stand w stage ≡ true → stage ≤ in_masked
stands_le Shares stage h = omega (arith, eqb-true stage 0 h)
stands_le Map stage h = omega (arith, eqb-true stage 1 h)
stands_le Input stage h = two_le stage 1 2 5 (omega arith) (omega arith) h
stands_le Origin stage h = two_le stage 1 2 5 (omega arith) (omega arith) h
stands_le Set stage h = two_le stage 3 5 5 (omega arith) (omega arith) h
stands_le Xor stage h = two_le stage 3 5 5 (omega arith) (omega arith) h
stands_le Mul stage h = two_le stage 3 5 5 (omega arith) (omega arith) h
stands_le App stage h = two_le stage 3 5 5 (omega arith) (omega arith) h
stands_le Let stage h = two_le stage 3 5 5 (omega arith) (omega arith) h
stands_le Rand stage h = omega (arith, eqb-true stage 5 h)
stands_le Result stage h = omega (arith, eqb-true stage 3 h)
stands_le Masked stage h = omega (arith, eqb-true stage 4 h)
stands_le Output stage h = omega (arith, eqb-true stage 5 h)
stands_le Unknown stage h = true-false (sym h)

-- a stage before the masked block follows only one before it
pub after_lt : (w : Word) (stage : ℕ) → may_stand w stage ≡ true → stage_after w stage < in_masked → stage < in_masked
after_lt Shares stage h k = omega (arith, eqb-true stage 0 h)
after_lt Map stage h k = omega (arith, eqb-true stage 1 h)
after_lt Input stage h k = omega (arith, two_le stage 1 2 2 (omega arith) (omega arith) h)
after_lt Origin stage h k = omega (arith, two_le stage 1 2 2 (omega arith) (omega arith) h)
after_lt Set stage h k = k
after_lt Xor stage h k = k
after_lt Mul stage h k = k
after_lt App stage h k = k
after_lt Let stage h k = k
after_lt Rand stage h k = k
after_lt Result stage h k = omega (arith, eqb-true stage 3 h)
after_lt Masked stage h k = omega (arith, eqb-true stage 4 h)
after_lt Output stage h k = absurd (omega arith)
after_lt Unknown stage h k = k
