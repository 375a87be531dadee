-- The term count behind unknown ("The term count behind unknown").
-- Assumes nothing.
use Rattle.std.specs.Prelude.{ℕ, suc, ◌+◌, ◌*◌, ◌<◌, cond, List, [], ◌∷◌, ◌++◌, map, length, take, nat_lt, slice_index_or}
use Rattle.std.specs.Prelude.{Option, None as none, Some as some}
use Rattle.field.specs.Maps.{coefficients_of}
use Rattle.poly.specs.Poly.{Poly}
use Rattle.poly.specs.First.{sum}
use Rattle.poly.specs.Size.{one_if, nonzeros}
use Rattle.rules.specs.declared.types.Op.{Op}
use Rattle.rules.specs.declared.types.Op.TheVariants.{Set, Xor, Mul, App, Rand}
use Rattle.rules.specs.declared.types.Statement.{Statement}
use Rattle.rules.specs.declared.types.AffineMap.{AffineMap}
use Rattle.rules.specs.Read.{Routine}
use Rattle.verdict.specs.Meaning.{Trace, map_at, operand, result_in, outputs_in, difference_in}
use Rattle.verdict.specs.Instances.{modulus_of, polynomials_of}

-- what the count takes from a place: its line, its raw size, and its size after reducing
pub record Step : Type 0 where
  pub line : ℕ
  pub raw : ℕ
  pub size : ℕ

-- the step at a place
unfoldable pub step_at : List Step → ℕ → Step
step_at ss i = slice_index_or ss i (record { line = 0; raw = 0; size = 0 })

-- an application's raw size: p terms for each coefficient that is not 00, and one for such a constant
unfoldable pub apply_size : ℕ → AffineMap → ℕ → ℕ
apply_size m f p = nonzeros (coefficients_of m f.columns) * p + one_if f.constant

-- a statement's raw size, from the reduced values vs given before it
unfoldable pub raw_size : Routine → List Poly → Op → ℕ
raw_size r vs (Set a) = length (operand (polynomials_of r) vs a)
raw_size r vs (Xor a b) = length (operand (polynomials_of r) vs a) + length (operand (polynomials_of r) vs b)
raw_size r vs (Mul a b) = length (operand (polynomials_of r) vs a) * length (operand (polynomials_of r) vs b)
raw_size r vs (App f a) = apply_size (modulus_of r) (map_at r.maps f) (length (operand (polynomials_of r) vs a))
raw_size r vs (Rand v) = 1

-- the statements of a block with the values vs, whose own values stand from place `at` on
unfoldable pub block_steps : Routine → List Poly → ℕ → List Statement → List Step
block_steps r vs at [] = []
block_steps r vs at (s ∷ ss) =
    record { line = s.line; raw = raw_size r (take at vs) s.op; size = length (slice_index_or vs at []) }
    ∷ block_steps r vs (suc at) ss

-- the difference, at the output line
unfoldable pub last_step : Routine → Trace Poly → Step
last_step r t =
    let A = polynomials_of r in
    record {
      line = r.output_line;
      raw = length (result_in A r t.origin) + sum (map length (outputs_in A r t.masked));
      size = length (difference_in A r t);
    }

-- all places in order: the origin block, the masked block, the difference
unfoldable pub steps : Routine → Trace Poly → List Step
steps r t =
    block_steps r t.origin r.inputs r.origin
    ++ block_steps r t.masked (r.inputs * r.shares) r.masked
    ++ last_step r t ∷ []

-- what stands at place i: the reduced sizes of all earlier statements
unfoldable pub standing : Routine → List Step → ℕ → ℕ
standing r ss i = sum (map (λ s. s.size) (take i ss))

-- the limit that a routine is held to
unfoldable pub most_terms : Routine → ℕ
most_terms r = 3840

-- the line of the first place at which what stands and the raw size exceed the limit
unfoldable pub first_over : ℕ → (ℕ → ℕ) → List Step → Option ℕ
first_over most stands [] = none
first_over most stands (s ∷ ss) =
    let rest = first_over most (λ i. stands (suc i)) ss in
    cond (nat_lt most (stands 0 + s.raw)) (some s.line) rest

-- the line at which a routine is given up, if any
unfoldable pub unknown_line : Routine → Trace Poly → Option ℕ
unknown_line r t = let ss = steps r t in first_over (most_terms r) (standing r ss) ss

-- place i is over the limit
abbrev pub Over : ℕ → (ℕ → ℕ) → List Step → ℕ → Type 0
Over most stands ss i = most < stands i + (step_at ss i).raw

-- the first such place
pub record First (most : ℕ) (stands : ℕ → ℕ) (ss : List Step) (i : ℕ) : Type 0 where
  pub inside : i < length ss
  pub over : Over most stands ss i
  pub before : (j : ℕ) → j < i → Over most stands ss j → ⊥
