-- Idle inputs ("What judge answers", M-102): those whose values do not change the original's result. The outcome counts
-- them by the variables that are left in the reduced result.
-- Assumes nothing.
use Rattle.std.specs.Prelude.{◌≡◌, ℕ, zero, suc, ◌+◌, ◌*◌, ◌<◌, ◌≤◌, Bool, cond, List, slice_index, slice_set}
use Rattle.poly.specs.Poly.{Poly}
use Rattle.poly.specs.Canon.{ByteList}
use Rattle.poly.specs.Occurs.{some_occurs}
use Rattle.rules.specs.Read.{Routine}
use Rattle.verdict.specs.Instances.{reduced_result}
use Rattle.verdict.specs.Equivalent.{original}
use Rattle.verdict.specs.Run.{result_at}

-- ---- of values

-- variable v is a share of input i
abbrev pub ShareOf : Routine → (i v : ℕ) → Type 0
ShareOf r i v = (i * r.shares ≤ v) × (v < i * r.shares + r.shares)

-- the original gives the same result for all values of input i, the other inputs held fixed
unfoldable pub Unmoved : Routine → ℕ → Type 0
Unmoved r i = (a : List ℕ) (b : ℕ) → ByteList r.inputs a → b < 256 → original r (slice_set a i b) ≡ original r a

-- so does run, for all values of the input's shares, every other variable held fixed
unfoldable pub Indifferent : Routine → ℕ → Type 0
Indifferent r i = (xs ys : List ℕ) → ByteList r.variables xs → ByteList r.variables ys
    → ((v : ℕ) → (ShareOf r i v → ⊥) → slice_index xs v ≡ slice_index ys v) → result_at r xs ≡ result_at r ys

-- so many of the numbers below another have P
pub data Tally (P : ℕ → Type 0) : ℕ → ℕ → Type 0 where
  none : Tally P 0 0
  counted : {m n : ℕ} → Tally P m n → P m → Tally P (suc m) (suc n)
  passed : {m n : ℕ} → Tally P m n → (P m → ⊥) → Tally P (suc m) n

-- n inputs are idle, under run
abbrev pub IdleInputs : Routine → ℕ → Type 0
IdleInputs r n = Tally (Indifferent r) r.inputs n

-- n inputs are idle, for the original on its inputs
abbrev pub UnmovedInputs : Routine → ℕ → Type 0
UnmovedInputs r n = Tally (Unmoved r) r.inputs n

-- ---- of the reduced result

-- a share of input i occurs in p
unfoldable pub matters : Routine → Poly → ℕ → Bool
matters r p i = some_occurs (i * r.shares) r.shares p

-- how many numbers below n fail the test
unfoldable pub failing : ℕ → (ℕ → Bool) → ℕ
failing zero test = 0
failing (suc n) test = cond (test n) 0 1 + failing n test

-- how many inputs have no share that occurs in the reduced result
unfoldable pub idle : Routine → ℕ
idle r = let p = reduced_result r in failing r.inputs (matters r p)
