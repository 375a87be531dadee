-- Both blocks of a routine walked, and what stands in the first work buffer when no place was over the limit.
-- Assumes nothing.
use Rattle.std.specs.Prelude.{◌≡◌, ℕ, ◌+◌, ◌*◌, ◌≤◌, cond, Result, Ok, Err, List, ltb, length, take}
use Rattle.std.specs.Prelude.{None as none, Some as some}
use Rattle.text.specs.declared.routine.Routine as code
use Rattle.rules.specs.Limits.{most_variables}
use Rattle.text.specs.Routine.{maps_of, routine_of}
use Rattle.text.specs.Ready.{Ready}
use Rattle.verdict.specs.Instances.{symbolic}
use Rattle.verdict.specs.Count.{last_step, unknown_line}
use Rattle.values.specs.declared.shelf.Shelf.{Shelf}
use Rattle.values.specs.declared.source.Scope.{Scope}
use Rattle.values.specs.Shelf.{Sound, bare}
use Rattle.values.specs.Source.{reach}
use Rattle.values.specs.Raw.{most_standing, Tabled}
use Rattle.survey.specs.Walk.{Walked}

-- the low byte of the modulus
abbrev pub modulus : ℕ
modulus = 27

-- the bytes of a term: its coefficient, and a power for each variable
abbrev pub term_bytes : code.Routine → ℕ
term_bytes r = r.variables + 1

-- the origin block begins with the inputs, each the sum of its shares; it draws nothing
abbrev pub origin_scope : code.Routine → Scope
origin_scope r = record { begins = r.inputs; width = r.shares; base = 0; drawn = 0 }

-- the masked block begins with the shares of all inputs, and may draw every variable
abbrev pub masked_scope : code.Routine → Scope
masked_scope r = record { begins = r.inputs * r.shares; width = 1; base = r.origin; drawn = r.variables }

-- two work buffers of one length, with room for the most terms of the most variables
pub record Lent (left right : List ℕ) : Type 0 where
  pub room : most_standing * (most_variables + 1) ≤ length left
  pub same : length left ≡ length right

-- what a walk over a block asks
pub record BlockAsked (r : code.Routine) (lists : List (List ℕ)) (constants left right : List ℕ) : Type 0 where
  pub ready : Ready r
  pub lent : Lent left right
  pub tabled : Tabled modulus (maps_of r) lists constants

-- the directory holds the values of the origin block, and no more than the limit stands
pub record Begun (r : code.Routine) (d : Shelf) : Type 0 where
  pub sound : Sound d
  pub count : d.count ≡ r.origin
  pub top : d.top ≤ most_standing

-- the outcome of the walk over the origin block
abbrev pub OriginWalked : code.Routine → List ℕ → List ℕ → Result Shelf ℕ → Type 0
OriginWalked r left left' q =
    Walked modulus (maps_of r) r.statements 0 r.origin (origin_scope r) bare left (term_bytes r) most_standing left' q

-- the outcome of the walk over the masked block, above the values of the directory d
abbrev pub MaskedWalked : code.Routine → Shelf → List ℕ → List ℕ → Result Shelf ℕ → Type 0
MaskedWalked r d left left' q =
    Walked modulus (maps_of r) r.statements r.origin (r.origin + r.masked) (masked_scope r) d left
    (term_bytes r) most_standing left' q

-- the directory alone: the values of both blocks have places, and no more than the limit stands
pub record Directed (r : code.Routine) (d : Shelf) : Type 0 where
  pub sound : Sound d
  pub base : r.origin ≤ d.count
  pub top : d.top ≤ most_standing

-- the values of both blocks stand in the buffer; the difference alone is left to count
pub record Standing (r : code.Routine) (left : List ℕ) (d : Shelf) : Type 0 where
  pub directed : Directed r d
  pub origin : take (r.inputs + r.origin) (reach (term_bytes r) left d (origin_scope r))
      ≡ (symbolic (routine_of r)).origin
  pub masked : reach (term_bytes r) left d (masked_scope r) ≡ (symbolic (routine_of r)).masked
  pub last : unknown_line (routine_of r) (symbolic (routine_of r))
      ≡ cond (ltb most_standing (d.top + (last_step (routine_of r) (symbolic (routine_of r))).raw)) (some r.line) none

-- the whole outcome of both walks: the line at which the routine is given up, or all values
pub record Surveyed (r : code.Routine) (left : List ℕ) (q : Result Shelf ℕ) : Type 0 where
  pub given : (line : ℕ) → q ≡ Err line → unknown_line (routine_of r) (symbolic (routine_of r)) ≡ some line
  pub stands : (d : Shelf) → q ≡ Ok d → Standing r left d
