-- Both walks together: the line at which the routine is given up is that of the rules, and what stands are the values
-- of
-- the symbolic trace.
-- Assumes nothing.
use mathlib.Core.Path.{◌≡◌, refl, sym, ap, ap₂, ◌∙◌}
use Prim.Native.Nat.{ℕ, ◌+◌, ◌-◌}
use native.Mathlib.Omega.{arith}
use mathlib.Core.Bool.{cond}
use mathlib.Core.List.{List, [], ◌++◌}
use Rattle.std.specs.Prelude.{Option, None as none, Some as some}
use lib.Dec.{ltb}
use lib.ListN.{length, take, drop}
use lib.Seq.{take_all, take-append-add}
use Rattle.poly.specs.Poly.{Poly}
use Rattle.rules.specs.declared.types.Statement.{Statement}
use Rattle.text.specs.declared.routine.Routine as code
use Rattle.text.specs.Routine.{maps_of, origin_of, masked_of, routine_of}
use Rattle.verdict.specs.Meaning.{values}
use Rattle.verdict.specs.Instances.{polynomials, modulus_of, powers_of, symbolic}
use Rattle.verdict.specs.Count.{last_step, most_terms, unknown_line}
use Rattle.values.specs.declared.shelf.Shelf.{Shelf}
use Rattle.std.proofs.Common.{Result, Ok, Err}
use Rattle.values.specs.Shelf.{stored, value_of, bare}
use Rattle.values.specs.Source.{beginning, variables_of, visible, reach}
use Rattle.values.specs.Raw.{most_standing}
use Rattle.survey.specs.Walk.{over_in, top_in, part, line_of}
use Rattle.text.specs.Ready.{Ready}
use Rattle.survey.specs.Survey.{modulus, term_bytes, origin_scope, masked_scope, Begun, OriginWalked}
use Rattle.survey.specs.Survey.{MaskedWalked, Surveyed}
use Rattle.verdict.proofs.Laws.Lists.{length-tabulate}
use Rattle.values.proofs.Laws.Sources.{beginning-length}
use Rattle.survey.proofs.Laws.Counting.{or_else}
use Rattle.survey.proofs.Laws.Ends.{reach-start, walk-values, walk_top}
use Rattle.survey.proofs.Laws.Traces.{origin-trace, masked-trace}
use Rattle.survey.proofs.Laws.Unknown.{unknown_line_lem}

module _ {r : code.Routine} (Q : Ready r) where
  -- the powers of a term
  abbrev n : ℕ
  n = term_bytes r - 1

  powers : n ≡ r.variables
  powers = omega arith

  -- ---- the statements of both blocks

  origin-part : part r.statements 0 r.origin ≡ origin_of r
  unfolding origin_of
  origin-part = let e : r.origin - 0 ≡ r.origin = omega arith in ap (λ (k : ℕ). take k r.statements) e

  masked-part : part r.statements r.origin (r.origin + r.masked) ≡ masked_of r
  unfolding masked_of
  masked-part =
      let e : r.origin + r.masked - r.origin ≡ r.masked = omega arith in
      ap (λ (k : ℕ). take k (drop r.origin r.statements)) e

  -- ---- the values of both blocks

  abbrev origin_list : ℕ → List Poly
  origin_list k = values (polynomials modulus k) (maps_of r) (variables_of k (origin_scope r)) (beginning k (origin_scope r))
      (origin_of r)

  abbrev masked_list : ℕ → List Poly
  masked_list k = values (polynomials modulus k) (maps_of r) (variables_of k (masked_scope r)) (beginning k (masked_scope r))
      (masked_of r)

  origin_values_lem : origin_list n ≡ (symbolic (routine_of r)).origin
  unfolding routine_of powers_of modulus_of
  origin_values_lem =
      ap origin_list powers ∙ origin-trace (routine_of r) (origin_scope r) Q.counted.fits (omega arith) refl refl refl

  masked_values_lem : masked_list n ≡ (symbolic (routine_of r)).masked
  unfolding routine_of powers_of modulus_of
  masked_values_lem =
      ap masked_list powers ∙ masked-trace (routine_of r) (masked_scope r) Q.counted.fits (omega arith) refl refl refl

  -- ---- the line

  abbrev origin_over : ℕ → Option ℕ
  origin_over k =
      over_in most_standing modulus k (maps_of r) (variables_of k (origin_scope r)) (beginning k (origin_scope r)) 0
      (origin_of r)

  abbrev origin_top : ℕ → ℕ
  origin_top k = top_in modulus k (maps_of r) (variables_of k (origin_scope r)) (beginning k (origin_scope r)) 0 (origin_of r)

  abbrev masked_over : ℕ → Option ℕ
  masked_over k =
      over_in most_standing modulus k (maps_of r) (variables_of k (masked_scope r)) (beginning k (masked_scope r))
      (origin_top k) (masked_of r)

  abbrev masked_top : ℕ → ℕ
  masked_top k =
      top_in modulus k (maps_of r) (variables_of k (masked_scope r)) (beginning k (masked_scope r)) (origin_top k)
      (masked_of r)

  -- what the last place gives, above what stands
  abbrev last_over : ℕ → Option ℕ
  last_over top = cond (ltb most_standing (top + (last_step (routine_of r) (symbolic (routine_of r))).raw))
      (some r.line) none

  line-by : unknown_line (routine_of r) (symbolic (routine_of r))
      ≡ or_else (origin_over n) (or_else (masked_over n) (last_over (masked_top n)))
  unfolding routine_of powers_of modulus_of most_terms last_step
  line-by =
      unknown_line_lem (routine_of r) (symbolic (routine_of r)) (variables_of r.variables (origin_scope r))
      (variables_of r.variables (masked_scope r))
      (beginning r.variables (origin_scope r)) (beginning r.variables (masked_scope r))
      (sym (ap origin_list powers) ∙ origin_values_lem) (beginning-length r.variables (origin_scope r) [] [])
      (sym (ap masked_list powers) ∙ masked_values_lem) (beginning-length r.variables (masked_scope r) [] [])
      ∙ ap (λ (k : ℕ). or_else (origin_over k) (or_else (masked_over k) (last_over (masked_top k)))) (sym powers)

  -- ---- the walk over the origin block

  module _ {left₀ left₁ : List ℕ} {q : Result Shelf ℕ} (W : OriginWalked r left₀ left₁ q) where
    origin-start : reach (term_bytes r) left₀ bare (origin_scope r) ≡ beginning n (origin_scope r)
    unfolding bare
    origin-start = reach-start (term_bytes r) left₀ bare (origin_scope r) refl

    origin-line : line_of q ≡ origin_over n
    unfolding bare
    origin-line =
        W.decided
        ∙ ap₂ (λ (vs : List Poly) (ss : List Statement). over_in most_standing modulus n (maps_of r)
        (variables_of n (origin_scope r)) vs 0 ss)
        origin-start origin-part

    -- given up in the origin block
    pub origin_over_lem : (line : ℕ) → q ≡ Err line → unknown_line (routine_of r) (symbolic (routine_of r)) ≡ some line
    origin_over_lem line e =
        line-by
        ∙ ap (λ (x : Option ℕ). or_else x (or_else (masked_over n) (last_over (masked_top n))))
        (sym origin-line ∙ ap line_of e)

    module _ {d : Shelf} (e : q ≡ Ok d) where
      origin-none : origin_over n ≡ none
      origin-none = sym origin-line ∙ ap line_of e

      origin-stands : reach (term_bytes r) left₁ d (origin_scope r) ≡ (symbolic (routine_of r)).origin
      origin-stands =
          walk-values (W.finished d e)
          ∙ ap₂ (λ (vs : List Poly) (ss : List Statement). values (polynomials modulus n) (maps_of r)
          (variables_of n (origin_scope r)) vs ss)
          origin-start origin-part
          ∙ origin_values_lem

      origin_top_lem : d.top ≡ origin_top n
      unfolding bare
      origin_top_lem =
          walk_top (W.finished d e)
          ∙ ap₂ (λ (vs : List Poly) (ss : List Statement). top_in modulus n (maps_of r)
          (variables_of n (origin_scope r)) vs 0 ss)
          origin-start origin-part

      -- what the walk over the masked block asks
      pub origin-begun : Begun r d
      unfolding bare
      origin-begun =
          let H = W.finished d e in
          record { sound = H.sound; count = omega (arith, H.count); top = H.top }

      -- ---- the walk over the masked block

      module _ {left₂ : List ℕ} {p : Result Shelf ℕ} (X : MaskedWalked r d left₁ left₂ p) where
        masked-start : reach (term_bytes r) left₁ d (masked_scope r) ≡ beginning n (masked_scope r)
        masked-start = reach-start (term_bytes r) left₁ d (masked_scope r) (sym origin-begun.count)

        masked-line : line_of p ≡ masked_over n
        masked-line =
            X.decided
            ∙ ap₂ (λ (vs : List Poly) (ss : List Statement).
            over_in most_standing modulus n (maps_of r) (variables_of n (masked_scope r)) vs d.top ss)
            masked-start masked-part
            ∙ ap (λ (k : ℕ). over_in most_standing modulus n (maps_of r) (variables_of n (masked_scope r))
            (beginning n (masked_scope r)) k (masked_of r))
            origin_top_lem

        masked_top_lem : (x : Shelf) → p ≡ Ok x → x.top ≡ masked_top n
        masked_top_lem x f =
            walk_top (X.finished x f)
            ∙ ap₂ (λ (vs : List Poly) (ss : List Statement).
            top_in modulus n (maps_of r) (variables_of n (masked_scope r)) vs d.top ss)
            masked-start masked-part
            ∙ ap (λ (k : ℕ). top_in modulus n (maps_of r) (variables_of n (masked_scope r)) (beginning n (masked_scope r)) k
            (masked_of r))
            origin_top_lem

        masked-stands : (x : Shelf) → p ≡ Ok x → reach (term_bytes r) left₂ x (masked_scope r)
            ≡ (symbolic (routine_of r)).masked
        masked-stands x f =
            walk-values (X.finished x f)
            ∙ ap₂ (λ (vs : List Poly) (ss : List Statement). values (polynomials modulus n) (maps_of r)
            (variables_of n (masked_scope r)) vs ss)
            masked-start masked-part
            ∙ masked_values_lem

        -- the values of the origin block still stand
        origin-kept : (x : Shelf) → p ≡ Ok x
            → take (r.inputs + r.origin) (reach (term_bytes r) left₂ x (origin_scope r))
            ≡ (symbolic (routine_of r)).origin
        unfolding visible stored
        origin-kept x f =
            let first = stored (term_bytes r) left₁ d in
            let b = beginning n (origin_scope r) in
            let c : length first ≡ r.origin = length-tabulate d.count
            (value_of (term_bytes r) left₁ d) ∙ origin-begun.count in
            ap (λ (k : ℕ). take (k + r.origin) (b ++ stored (term_bytes r) left₂ x))
            (sym (beginning-length n (origin_scope r) [] []))
            ∙ take-append-add b (stored (term_bytes r) left₂ x) r.origin
            ∙ ap (λ (vs : List Poly). b ++ vs) ((X.finished x f).kept ∙ take_all r.origin first (omega (arith, c)))
            ∙ origin-stands

        -- what the line is where the origin block has none
        line-masked : unknown_line (routine_of r) (symbolic (routine_of r))
            ≡ or_else (line_of p) (last_over (masked_top n))
        line-masked =
            line-by
            ∙ ap₂ (λ (x y : Option ℕ). or_else x (or_else y (last_over (masked_top n)))) origin-none (sym masked-line)

        -- both walks decide as the rules do
        pub surveyed : Surveyed r left₂ p
        surveyed = record {
          given = λ line f.
              line-masked ∙ ap (λ (y : Result Shelf ℕ). or_else (line_of y) (last_over (masked_top n))) f;
          stands = λ x f. record {
            directed = record {
              sound = (X.finished x f).sound;
              base = omega (arith, (X.finished x f).count, origin-begun.count);
              top = (X.finished x f).top;
            };
            origin = origin-kept x f;
            masked = masked-stands x f;
            last =
                line-masked
                ∙ ap (λ (y : Result Shelf ℕ). or_else (line_of y) (last_over (masked_top n))) f
                ∙ ap last_over (sym (masked_top_lem x f));
          };
        }

    -- a routine that the origin block gives up
    pub surveyed-first : {line : ℕ} → q ≡ Err line → Surveyed r left₁ (Err line)
    surveyed-first {line} e = record { given = λ k f. origin_over_lem k (e ∙ f); stands = λ d f. cc }
