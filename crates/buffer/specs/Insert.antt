-- Where a term goes among k sorted terms in a buffer, and what stands in the buffer when terms were inserted.
-- A term t is its coefficient and then its powers. Assumes nothing.
use Prim.Native.Nat.{Ordering}
use Rattle.std.specs.Prelude.{ℕ, suc, ◌+◌, ◌*◌, ◌-◌, ◌≤◌, ◌<◌, ◌≡◌, ◌≢◌, List, length, get_or, take, drop}
use Rattle.field.specs.Laws.{Ops, gf}
use Rattle.poly.specs.Poly.{Poly, order, insert, into}
use Rattle.poly.specs.Canon.{Powers, Sorted}
use Rattle.buffer.specs.Buffer.{read_terms}

-- b has k sorted terms of t's length
pub record PlaceAsked (b : List ℕ) (k : ℕ) (t : List ℕ) : Type 0 where
  pub some : 0 < length t
  pub source : k * length t ≤ length b
  pub sorted : Sorted (read_terms (length t - 1) b 0 k)

-- the first i of k terms come before t, and the next does not
pub record Placed (b : List ℕ) (k : ℕ) (t : List ℕ) (i : ℕ) : Type 0 where
  pub within : i ≤ k
  pub behind : Powers (λ f. order (drop 1 t) f ≡ Ordering.gt) (read_terms (length t - 1) b 0 i)
  pub before : i < k → order (drop 1 t) (take (length t - 1) (drop (suc (i * length t)) b)) ≢ Ordering.gt

-- the buffer b became b': its first r terms, w bytes each, are p; its length is kept, and nothing from
-- byte `top` on is touched
pub record Holds (b b' : List ℕ) (w top r : ℕ) (p : Poly) : Type 0 where
  pub size : length b' ≡ length b
  pub terms : read_terms (w - 1) b' 0 r ≡ p
  pub high : (j : ℕ) → top ≤ j → get_or b' j 0 ≡ get_or b j 0

-- b has k sorted terms of t's length, and room for one more
pub record InsertAsked (b : List ℕ) (k : ℕ) (t : List ℕ) : Type 0 where
  pub some : 0 < length t
  pub room : suc k * length t ≤ length b
  pub sorted : Sorted (read_terms (length t - 1) b 0 k)

-- the first k terms and the term t inserted among them
abbrev pub Inserted : Ops → List ℕ → List ℕ → ℕ → List ℕ → ℕ → Type 0
Inserted F b b' k t r =
    Holds b b' (length t) (suc k * length t) r (insert F (get_or t 0 0) (drop 1 t) (read_terms (length t - 1) b 0 k))

-- b has r sorted terms of w bytes and room for k more, src has k
pub record AddAsked (b : List ℕ) (r : ℕ) (src : List ℕ) (k w : ℕ) : Type 0 where
  pub some : 0 < w
  pub room : (r + k) * w ≤ length b
  pub source : k * w ≤ length src
  pub sorted : Sorted (read_terms (w - 1) b 0 r)

-- the first k terms of src inserted among the first r
abbrev pub Added : Ops → List ℕ → List ℕ → ℕ → List ℕ → ℕ → ℕ → ℕ → Type 0
Added F b b' r src w k n =
    Holds b b' w ((r + k) * w) n (into F (read_terms (w - 1) src 0 k) (read_terms (w - 1) b 0 r))

-- the same over every modulus, since sums do not use it
abbrev pub InsertedAny : List ℕ → List ℕ → ℕ → List ℕ → ℕ → Type 0
InsertedAny b b' k t r = (m : ℕ) → Inserted (gf m) b b' k t r

-- terms inserted among others, over every modulus
abbrev pub AddedAny : List ℕ → List ℕ → ℕ → List ℕ → ℕ → ℕ → ℕ → Type 0
AddedAny b b' r src w k n = (m : ℕ) → Added (gf m) b b' r src w k n
