-- What moves of bytes within a lent buffer leave, byte by byte. Assumes nothing.
use Rattle.std.specs.Prelude.{ℕ, ◌+◌, ◌≤◌, ◌<◌, ◌≡◌, List, length, get_or}

-- the bytes from..to moved up by `by`; those that nothing is moved onto stay
pub record MovedUp (b b' : List ℕ) (from to by : ℕ) : Type 0 where
  pub size : length b' ≡ length b
  pub low : (i : ℕ) → i < from + by → get_or b' i 0 ≡ get_or b i 0
  pub moved : (i : ℕ) → from ≤ i → i < to → get_or b' (i + by) 0 ≡ get_or b i 0
  pub high : (i : ℕ) → to + by ≤ i → get_or b' i 0 ≡ get_or b i 0

-- the bytes from..to moved down by `by`; those that nothing is moved onto stay
pub record MovedDown (b b' : List ℕ) (from to by : ℕ) : Type 0 where
  pub size : length b' ≡ length b
  pub low : (i : ℕ) → i + by < from → get_or b' i 0 ≡ get_or b i 0
  pub moved : (i : ℕ) → from ≤ i + by → i + by < to → get_or b' i 0 ≡ get_or b (i + by) 0
  pub high : (i : ℕ) → to ≤ i + by → get_or b' i 0 ≡ get_or b i 0

-- the bytes of t written at `at`
pub record Written (b b' : List ℕ) (at : ℕ) (t : List ℕ) : Type 0 where
  pub size : length b' ≡ length b
  pub low : (i : ℕ) → i < at → get_or b' i 0 ≡ get_or b i 0
  pub here : (i : ℕ) → i < length t → get_or b' (at + i) 0 ≡ get_or t i 0
  pub high : (i : ℕ) → at + length t ≤ i → get_or b' i 0 ≡ get_or b i 0
