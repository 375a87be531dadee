-- The terms of a piece merged with those of a sum in one buffer, in one pass: what a step asks and leaves, and the
-- whole. Assumes nothing.
use Prim.Native.Nat.{ℕ, suc, ◌+◌, ◌*◌, ◌-◌, ◌≤◌, ◌<◌, Ordering}
use Rattle.std.specs.Prelude.{◌≡◌, List, [], ◌∷◌, ◌++◌, length, get_or, take, drop}
use Rattle.field.specs.Laws.{Ops, gf}
use Rattle.poly.specs.Poly.{term, Poly, order, into}
use Rattle.poly.specs.Canon.{Coefs, Sorted, Nonzero}
use Rattle.buffer.specs.Buffer.{read_terms}
use Rattle.buffer.specs.Insert.{Holds}

-- ---- one step

-- k terms of w bytes are written; of the sum the terms i to end are left, of the piece behind it the terms j to last
pub record Merging (b : List ℕ) (w k i end j last : ℕ) : Type 0 where
  pub some : 0 < w
  pub sum : i ≤ end
  pub piece : end ≤ j
  pub most : j ≤ last
  pub room : k + (last - j) ≤ i
  pub fits : last * w ≤ length b
  pub ascends : Sorted (read_terms (w - 1) b (i * w) (end - i))
  pub sorted : Sorted (read_terms (w - 1) b (j * w) (last - j))
  pub nonzero : Coefs Nonzero (read_terms (w - 1) b (j * w) (last - j))

-- the terms written, and what those left of the piece and of the sum still give
abbrev pub merged : Ops → List ℕ → ℕ → ℕ → ℕ → ℕ → ℕ → ℕ → Poly
merged F b w k i end j last =
    read_terms (w - 1) b 0 k
    ++ into F (read_terms (w - 1) b (j * w) (last - j)) (read_terms (w - 1) b (i * w) (end - i))

-- term j of the piece stands in the buffer, and there is room for a term before those left of the sum
pub record StepAsked (b : List ℕ) (w k i end j : ℕ) : Type 0 where
  pub some : 0 < w
  pub room : k < i
  pub sum : i ≤ end
  pub piece : end ≤ j
  pub fits : (j + 1) * w ≤ length b

-- powers against those of a list's first term; they come first where there is none
abbrev pub against : List ℕ → Poly → Ordering
against e [] = Ordering.lt
against e (term d f ∷ p) = order e f

-- the powers of term j of the piece against those of the first term left of the sum
abbrev pub facing : List ℕ → ℕ → ℕ → ℕ → ℕ → Ordering
facing b w i end j = against (take (w - 1) (drop (suc (j * w)) b)) (read_terms (w - 1) b (i * w) (end - i))

-- the terms p are written behind the first k, which makes n; from term `from` on nothing is touched
pub record Grown (b b' : List ℕ) (w k n from : ℕ) (p : Poly) : Type 0 where
  pub size : length b' ≡ length b
  pub terms : read_terms (w - 1) b' 0 n ≡ read_terms (w - 1) b 0 k ++ p
  pub high : (x : ℕ) → from * w ≤ x → get_or b' x 0 ≡ get_or b x 0

-- a step: one term at least is passed, and the whole stays what it was
pub record Stepped (F : Ops) (b b' : List ℕ) (w end last k i j k' i' j' : ℕ) : Type 0 where
  pub size : length b' ≡ length b
  pub left : Merging b' w k' i' end j' last
  pub less : end - i' + (last - j') < end - i + (last - j)
  pub same : merged F b' w k' i' end j' last ≡ merged F b w k i end j last

-- the same over every modulus, and wherever the piece ends
abbrev pub SteppedAny : List ℕ → List ℕ → ℕ → ℕ → ℕ → ℕ → ℕ → ℕ → ℕ → ℕ → Type 0
SteppedAny b b' w end k i j k' i' j' =
    (m last : ℕ) → j < last → Merging b w k i end j last → Stepped (gf m) b b' w end last k i j k' i' j'

-- ---- the whole

-- the first n terms are sorted, and so are the r from term `at` on, of which no coefficient is zero; between them there
-- is room for as many
pub record MergeAsked (b : List ℕ) (n at r w : ℕ) : Type 0 where
  pub some : 0 < w
  pub room : n + r ≤ at
  pub fits : (at + r) * w ≤ length b
  pub ascends : Sorted (read_terms (w - 1) b 0 n)
  pub sorted : Sorted (read_terms (w - 1) b (at * w) r)
  pub nonzero : Coefs Nonzero (read_terms (w - 1) b (at * w) r)

-- the r terms from term `at` on inserted among the first n, over every modulus
abbrev pub MergedAny : List ℕ → List ℕ → ℕ → ℕ → ℕ → ℕ → ℕ → Type 0
MergedAny b b' n at r w k =
    (m : ℕ) → Holds b b' w (length b) k (into (gf m) (read_terms (w - 1) b (at * w) r) (read_terms (w - 1) b 0 n))
