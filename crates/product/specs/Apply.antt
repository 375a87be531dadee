-- What the application of a map asks of the lent buffers and leaves in them. Assumes nothing.
use Rattle.std.specs.Prelude.{ℕ, ◌+◌, ◌*◌, ◌-◌, ◌≤◌, ◌<◌, ◌≡◌, List, [], length, get_or}
use Rattle.field.specs.Field.{Modulus}
use Rattle.field.specs.Laws.{gf}
use Rattle.poly.specs.Poly.{constant, scale, into, square, map_poly, unless_zero}
use Rattle.poly.specs.Canon.{Sorted, Raw}
use Rattle.poly.specs.Size.{one_if, nonzeros}
use Rattle.buffer.specs.Buffer.{read_terms}
use Rattle.buffer.specs.Insert.{Holds}

-- c as a polynomial, at the front of b; a term has w bytes
abbrev pub Constant : List ℕ → List ℕ → ℕ → ℕ → ℕ → Type 0
Constant b b' c w n = Holds b b' w (one_if c * w) n (constant (w - 1) c)

-- each of the first k terms squared
abbrev pub Squared : ℕ → List ℕ → List ℕ → ℕ → ℕ → Type 0
Squared m src src' k w = Holds src src' w (k * w) k (square (gf m) (read_terms (w - 1) src 0 k))

-- src has k terms of t's length, and b has r that are sorted and room for k more, unless l is zero
pub record ScaledAsked (b : List ℕ) (r l : ℕ) (src : List ℕ) (k : ℕ) (t : List ℕ) : Type 0 where
  pub some : 0 < length t
  pub source : k * length t ≤ length src
  pub room : (r + one_if l * k) * length t ≤ length b
  pub sorted : Sorted (read_terms (length t - 1) b 0 r)

-- l times each of the first k terms of src, inserted among the first r; nothing where l is zero
abbrev pub ScaledAdded : ℕ → List ℕ → List ℕ → ℕ → ℕ → List ℕ → ℕ → ℕ → ℕ → Type 0
ScaledAdded m b b' r l src k w n =
    Holds b b' w ((r + one_if l * k) * w) n
    (into (gf m) (unless_zero l (scale (gf m) l [] (read_terms (w - 1) src 0 k))) (read_terms (w - 1) b 0 r))

-- src has k terms of t's length, and b has room for a constant and for k terms for each coefficient that is not zero
pub record ApplyAsked (m c : ℕ) (ls b src : List ℕ) (k : ℕ) (t : List ℕ) : Type 0 where
  pub modulus : Modulus m
  pub some : 0 < length t
  pub source : k * length t ≤ length src
  pub terms : Raw (length t - 1) (read_terms (length t - 1) src 0 k)
  pub room : (one_if c + nonzeros ls * k) * length t ≤ length b

-- the map with the constant c and the coefficients ls, applied to the first k terms of src, which are used up
pub record Applied (m c : ℕ) (ls b b' src src' : List ℕ) (k w n : ℕ) : Type 0 where
  pub held : Holds b b' w ((one_if c + nonzeros ls * k) * w) n
      (map_poly (gf m) (w - 1) c ls (read_terms (w - 1) src 0 k))
  pub source : length src' ≡ length src
  pub above : (j : ℕ) → k * w ≤ j → get_or src' j 0 ≡ get_or src j 0
