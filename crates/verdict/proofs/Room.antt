-- A decided text has room: no value is larger than its raw size, so what stands and the difference stay within the
-- limit, and all values of a text together fit one work buffer.
-- Assumes nothing.
use Rattle.std.proofs.Common.{◌≡◌, ℕ, zero, suc, ◌*◌, ◌<◌, ◌≤◌, List, [], ◌∷◌, ◌++◌, map, length, sym, ap, ◌∙◌, subst, le_refl, arith, length-append}
use lib.ListN.{length-map}
use Rattle.field.specs.Laws.{gf}
use Rattle.poly.specs.Poly.{Poly, constant, variable}
use Rattle.poly.specs.First.{sum}
use Rattle.poly.proofs.Laws.Size.{add-size}
use Rattle.rules.specs.declared.types.Statement.{Statement}
use Rattle.rules.specs.Read.{Routine}
use Rattle.rules.specs.Formed.{Each, Formed}
use Rattle.verdict.specs.Lists.{tabulate, lots, behind, poured}
use Rattle.verdict.specs.Meaning.{value_at, given, values, joined, origin_values, masked_values}
use Rattle.verdict.specs.Meaning.{result_in, outputs_in, trace, joined_in, difference_in}
use Rattle.verdict.specs.Instances.{modulus_of, powers_of, polynomials, polynomials_of, symbolic, difference}
use Rattle.verdict.specs.Count.{Step, step_at, block_steps, last_step, steps, standing, most_terms}
use Rattle.verdict.specs.Verdict.{places_of, Decided}
use Rattle.verdict.proofs.Laws.Lists.{each_at, each-poured, each-lots, each-behind, each-tabulate}
use Rattle.rules.proofs.Laws.Letting.{each_append}
use Rattle.verdict.proofs.Laws.Lists.{Square, length-poured, square-lots, length-lots, length-tabulate}
use Rattle.verdict.proofs.Laws.Count.{standing-next}
use Rattle.verdict.proofs.Laws.Steps.{get_d_end, steps_next, given-size}

-- a step's size is at most its raw size
abbrev pub Sized : Step → Type 0
Sized s = s.size ≤ s.raw

-- at most one term
abbrev Small : Poly → Type 0
Small p = length p ≤ 1

module _ (r : Routine) where
  -- a variable, or a place past the last, has one term at most
  small_at : (xs : List Poly) → Each Small xs → (v : ℕ) → Small (value_at (polynomials_of r) xs v)
  unfolding value_at polynomials_of polynomials
  small_at xs h v = each_at Small xs (constant (powers_of r) 0) h (omega arith) v

  block-sized : (xs : List Poly) → Each Small xs → (vs : List Poly) (ss : List Statement)
      → Each Sized (block_steps r (values (polynomials_of r) r.maps xs vs ss) (length vs) ss)
  unfolding block_steps
  block-sized xs h vs [] = tt
  block-sized xs h vs (s ∷ ss) =
      let A = polynomials_of r in
      let v : Poly = given A r.maps xs vs s.op in
      let e : length (vs ++ v ∷ []) ≡ suc (length vs) = omega (arith, length-append vs (v ∷ [])) in
      subst (Each Sized) (sym (steps_next r xs vs s ss)) (
        given-size r xs vs s.op (small_at xs h),
        subst (λ (n : ℕ). Each Sized (block_steps r (values A r.maps xs (vs ++ v ∷ []) ss) n ss)) e
            (block-sized xs h (vs ++ v ∷ []) ss),
      )

  joined-size : (ps : List Poly) → length (joined (polynomials_of r) ps) ≤ sum (map length ps)
  unfolding joined polynomials_of polynomials
  joined-size [] = omega arith
  joined-size (p ∷ ps) =
      omega (arith, add-size (gf (modulus_of r)) p (joined (polynomials_of r) ps), joined-size ps)

  last-sized : Sized (last_step r (symbolic r))
  unfolding last_step difference_in joined_in polynomials_of polynomials
  last-sized =
      let A = polynomials_of r in
      let p = result_in A r (symbolic r).origin in
      let q = joined A (outputs_in A r (symbolic r).masked) in
      omega (arith, add-size (gf (modulus_of r)) p q, joined-size (outputs_in A r (symbolic r).masked))

  -- the steps of the origin block, and those of the masked block
  module _ (F : Formed r) where
    xs : List Poly
    xs = tabulate r.variables (variable (powers_of r))

    small : Each Small xs
    unfolding xs
    small = each-tabulate Small r.variables (variable (powers_of r)) (λ i l. le_refl 1)

    fits : Square r.shares r.inputs (lots r.shares r.inputs xs)
    unfolding xs
    fits = square-lots r.shares r.inputs xs
        (omega (arith, F.fits, length-tabulate r.variables (variable (powers_of r))))

    origin-sized : Each Sized (block_steps r (symbolic r).origin r.inputs r.origin)
    unfolding xs symbolic trace origin_values
    origin-sized =
        let A = polynomials_of r in
        let ss : List (List Poly) = lots r.shares r.inputs xs in
        let ins : List Poly = map (joined A) ss in
        subst (λ (n : ℕ). Each Sized (block_steps r (values A r.maps [] ins r.origin) n r.origin))
        (length-map ss (joined A) ∙ length-lots r.shares r.inputs ss fits) (block-sized [] tt ins r.origin)

    masked-sized : Each Sized (block_steps r (symbolic r).masked (r.inputs * r.shares) r.masked)
    unfolding xs symbolic trace masked_values
    masked-sized =
        let A = polynomials_of r in
        let k = r.shares in
        let m = r.inputs in
        let ss : List (List Poly) = lots k m xs in
        let ys : List Poly = poured ss ++ behind k m xs in
        let all : Each Small ys =
        each_append Small (poured ss) (behind k m xs) (each-poured Small ss (each-lots Small k m xs small))
        (each-behind Small k m xs small) in
        subst (λ (n : ℕ). Each Sized (block_steps r (values A r.maps ys (poured ss) r.masked) n r.masked))
        (length-poured k m ss fits) (block-sized ys all (poured ss) r.masked)

  -- THEOREM: no value of a routine is larger than its raw size
  pub places-sized : Formed r → Each Sized (places_of r)
  unfolding places_of steps
  places-sized F =
      let os = block_steps r (symbolic r).origin r.inputs r.origin in
      let ms = block_steps r (symbolic r).masked (r.inputs * r.shares) r.masked in
      each_append Sized (os ++ ms) (last_step r (symbolic r) ∷ [])
      (each_append Sized os ms (origin-sized F) (masked-sized F)) (last-sized, tt)

  -- each place's size is at most its raw size
  place-sized : Formed r → (i : ℕ) → (step_at (places_of r) i).size ≤ (step_at (places_of r) i).raw
  unfolding step_at
  place-sized F i =
      each_at Sized (places_of r) (record { line = 0; raw = 0; size = 0 }) (places-sized F) (le_refl 0) i

  -- THEOREM: where a text is decided, what stands stays within the limit
  pub standing-room : Formed r → Decided r → (i : ℕ) → i ≤ length (places_of r) → standing r (places_of r) i ≤ most_terms r
  unfolding standing
  standing-room F d zero l = omega arith
  standing-room F d (suc i) l =
      omega (arith, standing-next r (places_of r) i l, place-sized F i, d i l)

  -- THEOREM: and so does the difference
  pub difference-room : Formed r → Decided r → length (difference r) ≤ most_terms r
  unfolding places_of steps step_at last_step difference
  difference-room F d =
      let os = block_steps r (symbolic r).origin r.inputs r.origin in
      let ms = block_steps r (symbolic r).masked (r.inputs * r.shares) r.masked in
      let front : List Step = os ++ ms in
      let none : Step = record { line = 0; raw = 0; size = 0 } in
      let e : step_at (places_of r) (length front) ≡ last_step r (symbolic r) =
      get_d_end front (last_step r (symbolic r)) [] none in
      let l : length front < length (places_of r) = omega (arith, length-append front (last_step r (symbolic r) ∷ [])) in
      omega (arith, d (length front) l, ap (λ (t : Step). t.raw) e, last-sized)
