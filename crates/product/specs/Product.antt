-- The product of two terms as bytes, and what products of polynomials ask of the lent buffers and leave in them.
-- A term is its coefficient and then its powers. Assumes nothing.
use Rattle.std.specs.Prelude.{ℕ, ◌+◌, ◌*◌, ◌-◌, ◌≤◌, ◌<◌, List, ◌∷◌, length, get_or, drop}
use Rattle.field.specs.Field.{times}
use Rattle.field.specs.Laws.{gf}
use Rattle.poly.specs.Poly.{Poly, add_pows, scale, into, mul_poly}
use Rattle.poly.specs.Canon.{Coefs, Sorted, Nonzero}
use Rattle.buffer.specs.Buffer.{read_terms}
use Rattle.buffer.specs.Insert.{Holds}

-- the bytes of the product of two terms, over the modulus m
abbrev pub term_times : ℕ → List ℕ → List ℕ → List ℕ
term_times m p q = times m (get_or p 0 0) (get_or q 0 0) ∷ add_pows (drop 1 p) (drop 1 q)

-- each term of p times the term whose bytes are f; a power that f lacks is zero
abbrev pub row_of : ℕ → List ℕ → Poly → Poly
row_of m f p = scale (gf m) (get_or f 0 0) (drop 1 f) p

-- f has a coefficient and no more powers than a term of w bytes, src has k terms, and b has r that are sorted and room
-- for k more
pub record RowAsked (b : List ℕ) (r : ℕ) (f src : List ℕ) (k w : ℕ) : Type 0 where
  pub some : 0 < length f
  pub within : length f ≤ w
  pub source : k * w ≤ length src
  pub room : (r + k) * w ≤ length b
  pub sorted : Sorted (read_terms (w - 1) b 0 r)

-- f times each of the first k terms of src, inserted among the first r; a term has w bytes
abbrev pub RowAdded : ℕ → List ℕ → List ℕ → ℕ → List ℕ → List ℕ → ℕ → ℕ → ℕ → Type 0
RowAdded m b b' r f src k w n =
    Holds b b' w ((r + k) * w) n (into (gf m) (row_of m f (read_terms (w - 1) src 0 k)) (read_terms (w - 1) b 0 r))

-- the same, and no coefficient of the first r terms of b is zero
pub record SumAsked (b : List ℕ) (r : ℕ) (f src : List ℕ) (k w : ℕ) : Type 0 where
  pub row : RowAsked b r f src k w
  pub nonzero : Coefs Nonzero (read_terms (w - 1) b 0 r)

-- the same terms inserted, where all of b may be touched
abbrev pub SumAdded : ℕ → List ℕ → List ℕ → ℕ → List ℕ → List ℕ → ℕ → ℕ → ℕ → Type 0
SumAdded m b b' r f src k w n =
    Holds b b' w (length b) n (into (gf m) (row_of m f (read_terms (w - 1) src 0 k)) (read_terms (w - 1) b 0 r))

-- p has i terms, q has k, and b has room for the products of all of them
pub record ProductAsked (b p : List ℕ) (i : ℕ) (q : List ℕ) (k : ℕ) (t : List ℕ) : Type 0 where
  pub some : 0 < length t
  pub left : i * length t ≤ length p
  pub right : k * length t ≤ length q
  pub room : i * k * length t ≤ length b

-- the product of the first i terms of p and the first k of q
abbrev pub Product : ℕ → List ℕ → List ℕ → List ℕ → ℕ → List ℕ → ℕ → ℕ → ℕ → Type 0
Product m b b' p i q k w n =
    Holds b b' w (i * k * w) n (mul_poly (gf m) (read_terms (w - 1) p 0 i) (read_terms (w - 1) q 0 k))

-- the same product, where all of b may be touched
abbrev pub ProductSummed : ℕ → List ℕ → List ℕ → List ℕ → ℕ → List ℕ → ℕ → ℕ → ℕ → Type 0
ProductSummed m b b' p i q k w n =
    Holds b b' w (length b) n (mul_poly (gf m) (read_terms (w - 1) p 0 i) (read_terms (w - 1) q 0 k))
