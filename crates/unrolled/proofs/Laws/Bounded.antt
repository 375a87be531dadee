-- The limits hold behind every line that is taken. Assumes nothing.
use Prim.Native.Nat.{ℕ, ◌+◌}
use mathlib.Core.Path.{◌≡◌, subst}
use mathlib.Core.List.{List, [], ◌∷◌}
use Rattle.std.specs.Prelude.{Some as some}
use Rattle.tokens.specs.Split.{pieces}
use Rattle.tokens.specs.Ascii.{tab}
use Rattle.grammar.proofs.Laws.Holding.{Holds}
use Rattle.grammar.proofs.Laws.Fits.{Fits, record_fits}
use Rattle.rules.specs.State.{State}
use Rattle.rules.specs.Read.{take_line, next}
use Rattle.rules.proofs.Laws.Limits.{Bounded, added-bounded}
use Rattle.unrolled.proofs.Laws.Steps.{word_on, line_taken}
use Rattle.unrolled.proofs.Laws.Runs.{runs, runs-first}
use Rattle.tokens.proofs.Laws.Some.{some_same}

-- a line that is taken keeps the limits
pub line-bounded : (s t : State) (n : ℕ) (l : List ℕ) → Bounded s → take_line s n l ≡ next t → Bounded t
line-bounded s t n l K e =
    let T = line_taken s n l t e in
    let w = word_on l in
    subst Bounded T.leads
    (added-bounded s K n (subst (Holds (Fits w)) T.makes (record_fits w (pieces tab l))) T.passes)

-- THEOREM: the limits hold behind lines that are all taken
pub runs-bounded : (ls : List (List ℕ)) (s f : State) (n : ℕ) → Bounded s → runs s n ls ≡ some f → Bounded f
unfolding runs
runs-bounded [] s f n K e = subst Bounded (some_same e) K
runs-bounded (l ∷ ls) s f n K e =
    let a = runs-first s f n l ls e in
    runs-bounded ls a.0 f (n + 1) (line-bounded s a.0 (n + 1) l K a.1) a.2
