-- The difference, at the output line: its raw size and its terms are those of the rules, by the values that stand.
-- Assumes nothing.
use mathlib.Core.Path.{◌≡◌, refl, sym, ap, ap₂, ◌∙◌, subst}
use Prim.Native.Nat.{ℕ, ◌+◌, ◌*◌, ◌-◌, ◌≤◌, ◌<◌}
use native.Mathlib.Omega.{arith}
use native.Mathlib.Nat.{mul-one, mul-le-mul_right}
use mathlib.Core.List.{List, [], ◌∷◌, ◌++◌, map}
use lib.ListN.{length, take, get_or, length-append, length-take}
use lib.Seq.{get_or-take}
use Rattle.field.specs.Laws.{gf}
use Rattle.poly.specs.Poly.{Poly, variable, normal}
use Rattle.poly.specs.First.{sum}
use Rattle.poly.specs.Canon.{Raw}
use Rattle.poly.proofs.Laws.Normal.{canon-raw}
use Rattle.poly.proofs.Laws.Size.{add-size}
use Rattle.buffer.proofs.Lent.Reads.{read_length}
use Rattle.text.specs.declared.routine.Routine as code
use Rattle.rules.specs.declared.types.Operand.TheVariants.{Place}
use Rattle.rules.specs.Read.{Routine}
use Rattle.text.specs.Routine.{origin_of, outputs_of, routine_of}
use Rattle.rules.specs.Formed.{Each, Formed}
use Rattle.verdict.specs.Lists.{tabulate, poured}
use Rattle.verdict.specs.Meaning.{operand, value_at, result_in, outputs_in, joined_in, difference_in}
use Rattle.verdict.specs.Instances.{polynomials, polynomials_of, modulus_of, powers_of, symbolic, difference}
use Rattle.verdict.specs.Instances.{reduced_result}
use Rattle.verdict.specs.Count.{last_step}
use Rattle.verdict.proofs.Laws.Lists.{each_at}
use Rattle.verdict.proofs.Laws.Closed.{masked-closed}
use Rattle.verdict.proofs.Laws.Value.{Reduced, modulus_of_lem, routine-closed, variables_reduced, result_reduced}
use Rattle.values.specs.declared.shelf.Shelf.{Shelf}
use Rattle.values.specs.declared.source.Source.{Source}
use Rattle.values.specs.declared.source.Scope.{Scope}
use Rattle.values.specs.Shelf.{Laid}
use Rattle.values.specs.Source.{source_of, source_size, reach, Located}
use Rattle.values.specs.Load.{most_term_bytes, LayAsked, LoadAsked}
use Rattle.values.specs.Raw.{most_standing, OperandSized}
use Rattle.survey.specs.Difference.{placed, output_terms, OutputsAsked, OutputsSized}
use Rattle.text.specs.Ready.{Ready}
use Rattle.survey.specs.Survey.{modulus, term_bytes, origin_scope, masked_scope, Lent, Standing}
use Rattle.judge.specs.Settle.{LastSized, LastFormed}
use Rattle.values.proofs.Laws.Sources.{source-length}
use Rattle.survey.proofs.Laws.Outputs.{difference-normal}
use Rattle.survey.proofs.Laws.Asking.{lent-room}

-- ---- the outputs of a routine are reduced

raw_each : (v k n : ℕ) (ps : List Poly) → Each (Reduced v k n) ps → Each (Raw n) ps
raw_each v k n [] h = tt
raw_each v k n (p ∷ ps) h = (canon-raw h.0.0, raw_each v k n ps h.1)

raw-places : (n : ℕ) (vs : List Poly) → Each (Raw n) vs → (places : List ℕ)
    → Each (Raw n) (map (λ i. get_or vs i []) places)
raw-places n vs h [] = tt
raw-places n vs h (i ∷ places) =
    (each_at (Raw n) vs [] h (record { coefs = tt; powers = tt }) i, raw-places n vs h places)

raw-masked : (r : Routine) → Formed r → Each (Raw (powers_of r)) (symbolic r).masked
unfolding symbolic
raw-masked r F =
    raw_each r.variables (powers_of r - r.variables) (powers_of r) (symbolic r).masked
    (masked-closed (routine-closed r F) r F (tabulate r.variables (variable (powers_of r)))
    (variables_reduced r F))

-- the difference is one sum of the terms of the result and of all outputs
difference-terms : (r : Routine) → Formed r
    → difference r ≡ normal (gf (modulus_of r)) (reduced_result r ++ poured (outputs_in (polynomials_of r) r
    (symbolic r).masked))
unfolding difference difference_in joined_in outputs_in value_at polynomials_of polynomials reduced_result
difference-terms r F =
    difference-normal (modulus_of r) (powers_of r) (modulus_of_lem r) (reduced_result r)
    (outputs_in (polynomials_of r) r (symbolic r).masked) (canon-raw (result_reduced r F).0)
    (raw-places (powers_of r) (symbolic r).masked (raw-masked r F) r.outputs)

poured-length : (ps : List Poly) → length (poured ps) ≡ sum (map length ps)
poured-length [] = refl
poured-length (p ∷ ps) = length-append p (poured ps) ∙ ap (λ (k : ℕ). length p + k) (poured-length ps)

-- ---- by the values that stand

module _ {r : code.Routine} (Q : Ready r) {d : Shelf} {left : List ℕ} (S : Standing r left d) where
  -- the terms of all outputs
  abbrev outs : Poly
  outs = output_terms (term_bytes r) left d (masked_scope r) (take r.named r.outputs)

  result-inside : r.result < r.inputs + r.origin
  unfolding routine_of origin_of
  result-inside = omega (arith, Q.ranged.result, length-take r.origin r.statements)

  -- the result, among the values that stand
  result_at_lem : get_or (reach (term_bytes r) left d (origin_scope r)) r.result []
      ≡ reduced_result (routine_of r)
  unfolding routine_of result_in value_at polynomials_of polynomials reduced_result
  result_at_lem =
      sym (get_or-take (r.inputs + r.origin) (reach (term_bytes r) left d (origin_scope r)) r.result [] result-inside)
      ∙ ap (λ (vs : List Poly). get_or vs r.result []) S.origin

  -- it is found at its source
  pub result-found : (a : Source) → Located (origin_scope r) d (Place r.result) a
      → source_of (term_bytes r) left a ≡ reduced_result (routine_of r)
  unfolding operand value_at polynomials
  result-found a L = L.means modulus (term_bytes r) left ∙ result_at_lem

  outputs-found : map (placed (term_bytes r) left d (masked_scope r)) (take r.named r.outputs)
      ≡ outputs_in (polynomials_of (routine_of r)) (routine_of r) (symbolic (routine_of r)).masked
  unfolding routine_of outputs_of outputs_in value_at polynomials_of polynomials
  outputs-found = ap (λ (vs : List Poly). map (λ i. get_or vs i []) (take r.named r.outputs)) S.masked

  outputs-length : length outs
      ≡ sum (map length (outputs_in (polynomials_of (routine_of r)) (routine_of r) (symbolic (routine_of r)).masked))
  outputs-length =
      poured-length (map (placed (term_bytes r) left d (masked_scope r)) (take r.named r.outputs))
      ∙ ap (λ (ps : List Poly). sum (map length ps)) outputs-found

  -- the raw size of the difference, by the sizes of the directory
  raw-by : (k j : ℕ) → OperandSized (origin_scope r) d (Place r.result) k
      → OutputsSized (take r.named r.outputs) (masked_scope r) d j
      → k + j ≡ (last_step (routine_of r) (symbolic (routine_of r))).raw
  unfolding last_step operand value_at polynomials reduced_result
  raw-by k j h g =
      ap₂ (λ (x y : ℕ). x + y) (h.means modulus (term_bytes r) left ∙ ap length result_at_lem)
      (g.means (term_bytes r) left ∙ outputs-length)

  module _ {a : Source} (L : Located (origin_scope r) d (Place r.result) a) where
    -- the raw size of the difference
    pub last-raw : source_size a + length outs ≡ (last_step (routine_of r) (symbolic (routine_of r))).raw
    unfolding last_step reduced_result
    last-raw =
        ap₂ (λ (x y : ℕ). x + y)
        (sym (source-length (term_bytes r) left a) ∙ ap length (result-found a L)) outputs-length

    last-terms : normal (gf modulus) (source_of (term_bytes r) left a ++ outs) ≡ difference (routine_of r)
    unfolding modulus_of
    last-terms =
        ap₂ (λ (p : Poly) (ps : List Poly). normal (gf modulus) (p ++ poured ps)) (result-found a L) outputs-found
        ∙ sym (difference-terms (routine_of r) Q.formed)

    -- it has no more terms than its raw size
    last-small : length (difference (routine_of r)) ≤ (last_step (routine_of r) (symbolic (routine_of r))).raw
    last-small =
        omega (
          arith,
          ap length last-terms,
          add-size (gf modulus) (source_of (term_bytes r) left a) outs,
          source-length (term_bytes r) left a,
          last-raw,
        )

    module _ {right : List ℕ} (T : Lent left right)
        (fits : d.top + (last_step (routine_of r) (symbolic (routine_of r))).raw ≤ most_standing) where
      some-room : (k : ℕ) → k ≤ most_standing → k * term_bytes r ≤ length left
      some-room k h = omega (arith, mul-le-mul_right (term_bytes r) h, lent-room r left right Q T)

      narrow-term : term_bytes r ≤ most_term_bytes
      narrow-term = omega (arith, Q.counted.room)

      -- what loading the result asks, and then the outputs
      pub last-load : LoadAsked left a right 0 (term_bytes r)
      last-load = record {
        top = d.top;
        held = some-room d.top (omega arith);
        fits = L.fits (term_bytes r) (omega (arith, Q.counted.fits));
        asked = record {
          some = omega arith;
          most = narrow-term;
          room = omega (arith, some-room (0 + source_size a) (omega (arith, last-raw)), T.same);
        };
      }

      last-outputs : OutputsAsked left (take r.named r.outputs) (masked_scope r) d right (source_size a) (term_bytes r)
      last-outputs = record {
        wide = omega (arith, mul-one (r.inputs * r.shares), Q.counted.fits);
        most = narrow-term;
        few = omega (arith, length-take r.named r.outputs, Q.counted.outputs);
        held = some-room d.top (omega arith);
        room = omega (arith, some-room (source_size a + length outs) (omega (arith, last-raw)), T.same);
      }

      last-lay : LayAsked left d.top (source_size a + length outs) (term_bytes r)
      last-lay = record {
        some = omega arith;
        most = narrow-term;
        room = some-room (d.top + (source_size a + length outs)) (omega (arith, last-raw));
      }

      formed-here : (left' : List ℕ) (k : ℕ)
          → Laid (term_bytes r) left left' d.top k (normal (gf modulus) (source_of (term_bytes r) left a ++ outs))
          → LastFormed r d left left' k
      formed-here left' k h =
          let g : Laid (term_bytes r) left left' d.top k (difference (routine_of r)) =
          subst (Laid (term_bytes r) left left' d.top k) last-terms h in
          let c : k ≡ length (difference (routine_of r)) =
          sym (read_length (term_bytes r - 1) left' (d.top * term_bytes r) k) ∙ ap length g.terms in
          record {
            laid = g;
            count = c;
            room = omega (arith, some-room (d.top + k) (omega (arith, c, last-small)), g.size);
          }

      -- the scope of the masked block comes of a call
      module _ {t : Scope} (e : t ≡ masked_scope r) where
        -- what forming the difference asks
        pub last-asked : LoadAsked left a right 0 (term_bytes r)
            × OutputsAsked left (take r.named r.outputs) t d right (source_size a) (term_bytes r)
            × LayAsked left d.top (source_size a + length
            (output_terms (term_bytes r) left d t (take r.named r.outputs))) (term_bytes r)
        last-asked =
            subst (λ (x : Scope). LoadAsked left a right 0 (term_bytes r)
            × OutputsAsked left (take r.named r.outputs) x d right (source_size a) (term_bytes r)
            × LayAsked left d.top (source_size a + length
            (output_terms (term_bytes r) left d x (take r.named r.outputs))) (term_bytes r))
            (sym e) (last-load, last-outputs, last-lay)

        -- what is formed is the difference
        pub last-formed : (left' : List ℕ) (k : ℕ)
            → Laid (term_bytes r) left left' d.top k
            (normal (gf modulus) (source_of (term_bytes r) left a ++ output_terms (term_bytes r) left d t (take r.named r.outputs)))
            → LastFormed r d left left' k
        last-formed left' k h =
            formed-here left' k
            (subst (λ (x : Scope). Laid (term_bytes r) left left' d.top k
            (normal (gf modulus) (source_of (term_bytes r) left a ++ output_terms (term_bytes r) left d x (take r.named r.outputs)))) e h)

-- ---- where the scopes come of calls

-- where the result is found
pub located_at : (r : code.Routine) (d : Shelf) (s : Scope) (a : Source) → s ≡ origin_scope r
    → Located s d (Place r.result) a
    → Located (origin_scope r) d (Place r.result) a
located_at r d s a e h = subst (λ (x : Scope). Located x d (Place r.result) a) e h

module _ {r : code.Routine} (Q : Ready r) {d : Shelf} {s t : Scope} (e : s ≡ origin_scope r)
    (f : t ≡ masked_scope r) where
  -- the sizes of the result and of all outputs added are the raw size of the difference
  pub last-sized : (k j : ℕ) → OperandSized s d (Place r.result) k → OutputsSized (take r.named r.outputs) t d j
      → LastSized r d (k + j)
  last-sized k j h g = record {
    means = λ left S.
        raw-by Q S k j (subst (λ (x : Scope). OperandSized x d (Place r.result) k) e h)
        (subst (λ (x : Scope). OutputsSized (take r.named r.outputs) x d j) f g);
  }
