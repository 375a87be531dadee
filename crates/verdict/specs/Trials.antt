-- Trials where the verdict is unknown (M-103): the bytes of each valuation come from a number that runs on, and the
-- first trial that differs under run is found.
-- Assumes nothing.
use Rattle.std.specs.Prelude.{◌≡◌, ℕ, zero, suc, ◌+◌, ◌/◌, ◌%◌, ◌^◌, Bool, cond, Option, None, Some, List, [], ◌∷◌, length, take, ◌==◌}
use Rattle.rules.specs.Limits.{most_variables}
use Rattle.rules.specs.Read.{Routine}
use Rattle.verdict.specs.declared.trials.Trial.{Trial}
use Rattle.verdict.specs.declared.trials.Differing.{Differing}
use Rattle.verdict.specs.Run.{result_at, joined_at}

-- ---- the numbers

-- the next number: 9e3779b9 hex is added, wrapping at 2^32
unfoldable pub stepped : ℕ → ℕ
stepped n = (n + 0x9e3779b9) % 2 ^ 32

-- the top eight bits of a number below 2^32
unfoldable pub top_byte : ℕ → ℕ
top_byte n = n / 2 ^ 24

-- the number after v bytes
unfoldable pub number_after : ℕ → ℕ → ℕ
number_after zero n = n
number_after (suc v) n = number_after v (stepped n)

-- v bytes, each by adding first and then taking the top
unfoldable pub trial_bytes : ℕ → ℕ → List ℕ
trial_bytes zero n = []
trial_bytes (suc v) n = top_byte (stepped n) ∷ trial_bytes v (stepped n)

-- the number before trial i, the first being 0, of v bytes each: it runs on across trials
unfoldable pub number_at : ℕ → ℕ → ℕ → ℕ
number_at v start zero = start
number_at v start (suc i) = number_after v (number_at v start i)

-- the bytes of trial i
unfoldable pub trial_at : Routine → ℕ → ℕ → List ℕ
trial_at r start i = trial_bytes r.variables (number_at r.variables start i)

-- ---- the trials

-- none of them differs; or so many were made, and these are the bytes of the last
pub data Found : Type 0 where
  nothing : Found
  bytes : ℕ → List ℕ → Found

-- run gives one byte twice
unfoldable pub agrees_on : Routine → List ℕ → Bool
agrees_on r xs = result_at r xs == joined_at r xs

-- up to k trials more, where `made` were made and the number is n
unfoldable pub try_from : Routine → (k made n : ℕ) → Found
try_from r zero made n = nothing
try_from r (suc k) made n =
    let more = try_from r k (suc made) (number_after r.variables n) in
    cond (agrees_on r (trial_bytes r.variables n)) more (bytes (suc made) (trial_bytes r.variables n))

-- up to `count` trials from a starting number
abbrev pub try : Routine → (count start : ℕ) → Found
try r count start = try_from r count 0 start

-- ---- what the code gives

-- the v bytes of one trial, and the number after them
pub record TrialIs (n v : ℕ) (t : Trial) : Type 0 where
  pub sized : length t.bytes ≡ most_variables
  pub bytes : take v t.bytes ≡ trial_bytes v n
  pub next : t.next ≡ number_after v n

-- what the code's answer stands for, where the routine has v variables
unfoldable pub found_of : ℕ → Option Differing → Found
found_of v None = nothing
found_of v (Some d) = bytes d.made (take v d.bytes)
