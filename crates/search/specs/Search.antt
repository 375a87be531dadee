-- The search for the first bytes for which a polynomial still has a term. Assumes nothing.
use Rattle.std.specs.Prelude.{ℕ, suc, ◌*◌, ◌-◌, ◌≤◌, ◌<◌, ◌≡◌, List, length, get_or, take}
use Rattle.field.specs.Field.{Modulus}
use Rattle.field.specs.Laws.{gf}
use Rattle.poly.specs.First.{first_differing, tried}
use Rattle.poly.specs.Canon.{Canon}
use Rattle.buffer.specs.Buffer.{read_terms}

-- b has k reduced terms of w bytes, at least one, for at most 255 variables, and the list has room for a byte for
-- each variable
pub record SearchAsked (m : ℕ) (b : List ℕ) (k w : ℕ) (bytes : List ℕ) : Type 0 where
  pub modulus : Modulus m
  pub some : 0 < k
  pub wide : 0 < w
  pub few : w ≤ 256
  pub source : k * w ≤ length b
  pub canon : Canon (w - 1) (read_terms (w - 1) b 0 k)
  pub list : w ≤ suc (length bytes)

-- the bytes found stand at the front of the list, r were tried, and the k terms are used up
pub record Searched (m : ℕ) (b b' : List ℕ) (k w : ℕ) (bytes bytes' : List ℕ) (r : ℕ) : Type 0 where
  pub found : take (w - 1) bytes' ≡ first_differing (gf m) (w - 1) (read_terms (w - 1) b 0 k)
  pub count : r ≡ tried (first_differing (gf m) (w - 1) (read_terms (w - 1) b 0 k))
  pub listed : length bytes' ≡ length bytes
  pub behind : (j : ℕ) → w ≤ suc j → get_or bytes' j 0 ≡ get_or bytes j 0
  pub size : length b' ≡ length b
  pub high : (j : ℕ) → k * w ≤ j → get_or b' j 0 ≡ get_or b j 0
