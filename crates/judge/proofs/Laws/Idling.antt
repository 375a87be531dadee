-- The original's result loaded as terms: the inputs of which no share occurs in them are those that the rules count.
-- Assumes nothing.
use mathlib.Core.Path.{◌≡◌, ap, ◌∙◌}
use Prim.Native.Nat.{ℕ, ◌+◌, ◌*◌}
use native.Mathlib.Omega.{arith}
use mathlib.Core.List.{List}
use Rattle.poly.specs.Poly.{Poly}
use Rattle.poly.specs.Occurs.{some_occurs}
use Rattle.text.specs.declared.routine.Routine as code
use Rattle.rules.specs.declared.types.Operand.TheVariants.{Place}
use Rattle.text.specs.Routine.{routine_of}
use Rattle.text.specs.Ready.{Ready}
use Rattle.verdict.specs.Idle.{matters, failing, idle}
use Rattle.values.specs.declared.shelf.Shelf.{Shelf}
use Rattle.values.specs.declared.source.Source.{Source}
use Rattle.values.specs.Shelf.{terms_at, Laid}
use Rattle.values.specs.Source.{source_of, source_size, Located}
use Rattle.values.specs.Load.{LoadAsked}
use Rattle.survey.specs.Survey.{term_bytes, origin_scope}
use Rattle.judge.specs.Idle.{Holding}
use Rattle.judge.specs.Settle.{LastAsked}
use Rattle.judge.proofs.Laws.Lasts.{result-found, last-load}

module _ {r : code.Routine} (Q : Ready r) {d : Shelf} {left right : List ℕ} (A : LastAsked r d left right)
    {a : Source} (L : Located (origin_scope r) d (Place r.result) a) where
  -- the result can be loaded
  pub result-load : LoadAsked left a right 0 (term_bytes r)
  result-load = last-load Q A.standing L A.lent A.fits

  module _ {right' : List ℕ} {k : ℕ} (e : k ≡ source_size a)
      (H : Laid (term_bytes r) right right' 0 (source_size a) (source_of (term_bytes r) left a)) where
    -- its terms have a power for each share
    pub result-held : Holding right' k (term_bytes r) (r.inputs * r.shares)
    result-held =
        let f : (0 + source_size a) * term_bytes r ≡ k * term_bytes r =
        ap (λ (x : ℕ). x * term_bytes r) (let g : 0 + source_size a ≡ k = omega arith in g) in
        record {
          powers = omega (arith, Q.counted.fits);
          room = omega (arith, result-load.asked.room, H.size);
        }

    -- and are those of the reduced result
    pub result-idle : {n : ℕ} → n ≡ failing r.inputs
        (λ (i : ℕ). some_occurs (i * r.shares) r.shares (terms_at (term_bytes r) right' 0 k))
        → n ≡ idle (routine_of r)
    unfolding idle matters routine_of
    result-idle h =
        h ∙ ap (λ (p : Poly). failing r.inputs (λ (i : ℕ). some_occurs (i * r.shares) r.shares p))
        (ap (terms_at (term_bytes r) right' 0) e ∙ H.terms ∙ result-found Q A.standing a L)
