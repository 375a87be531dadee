-- The term count as it is redone on paper: what sizes the blocks begin with, and what a place's standing and size are.
-- Assumes nothing.
use Rattle.std.proofs.Common.{◌≡◌, ℕ, zero, suc, ◌+◌, ◌*◌, List, [], ◌∷◌, ◌++◌, map, length, take, replicate, sym, refl, ap, ◌∙◌, ap₂, arith}
use lib.ListN.{length-map}
use Rattle.poly.specs.Poly.{Poly, constant, units, variable}
use Rattle.poly.specs.Size.{one_if}
use Rattle.rules.specs.Read.{Routine}
use Rattle.rules.specs.Formed.{Formed}
use Rattle.verdict.specs.Lists.{tabulate, lots, behind, poured}
use Rattle.verdict.specs.Meaning.{Algebra, values, joined, trace, origin_values, masked_values}
use Rattle.verdict.specs.Instances.{modulus_of, powers_of, polynomials, polynomials_of, symbolic}
use Rattle.verdict.proofs.Laws.Begins.{tabulate-take, inputs-from}
use Rattle.verdict.proofs.Laws.Lists.{length-lots, square-lots, length-tabulate}
use Rattle.verdict.proofs.Laws.Steps.{values-take}
use Rattle.verdict.proofs.Laws.Ran.{poured-front}
use Rattle.verdict.proofs.Laws.Value.{room_for}

-- ---- sizes that need no count

-- constant 00 has no term, another constant one
pub constant-size : (n b : ℕ) → length (constant n b) ≡ one_if b
constant-size n zero = refl
constant-size n (suc b) = refl

-- a masked variable has one term
pub variable-size : (n i : ℕ) → length (variable n i) ≡ 1
variable-size n i = refl

-- the sum of k variables has k terms
pub units-size : (n i k : ℕ) → length (units n i k) ≡ k
units-size n i zero = refl
units-size n i (suc k) = ap suc (units-size n (suc i) k)

-- a table of lists of one length
sizes-same : (c k : ℕ) (f : ℕ → Poly) → ((i : ℕ) → length (f i) ≡ k) → map length (tabulate c f) ≡ replicate c k
sizes-same zero k f h = refl
sizes-same (suc c) k f h = ap₂ {C = List ℕ} ◌∷◌ (h 0) (sizes-same c k (λ i. f (suc i)) (λ i. h (suc i)))

-- ---- the blocks

module _ (r : Routine) (F : Formed r) where
  abbrev A : Algebra Poly
  A = polynomials (modulus_of r) (powers_of r)

  -- the variables, and the shares of each input among them
  abbrev xs : List Poly
  xs = tabulate r.variables (variable (powers_of r))

  abbrev ss : List (List Poly)
  ss = lots r.shares r.inputs xs

  -- THEOREM: an input of the origin block has k terms
  pub input-sizes : map length (take r.inputs (symbolic r).origin) ≡ replicate r.inputs r.shares
  unfolding symbolic trace origin_values polynomials_of
  input-sizes =
      let k = r.shares in
      let m = r.inputs in
      let n = powers_of r in
      let ins : List Poly = map (joined A) ss in
      let count : length ins ≡ m =
      length-map ss (joined A) ∙ length-lots k m ss (square-lots k m xs
      (omega (arith, F.fits, length-tabulate r.variables (variable n)))) in
      ap (λ (c : ℕ). map length (take c (values A r.maps [] ins r.origin))) (sym count)
      ∙ ap (map length) (values-take A r.maps [] ins r.origin
      ∙ inputs-from (modulus_of r) n r.variables k (room_for F) m 0 (omega (arith, F.fits)))
      ∙ sizes-same m k (λ i. units n (0 + i * k) k) (λ i. units-size n (0 + i * k) k)

  -- THEOREM: a share has one term
  pub share-sizes : map length (take (r.inputs * r.shares) (symbolic r).masked)
      ≡ replicate (r.inputs * r.shares) 1
  unfolding symbolic trace masked_values polynomials_of
  share-sizes =
      let c : ℕ = r.inputs * r.shares in
      let v = variable (powers_of r) in
      let front : poured ss ≡ tabulate c v =
      poured-front r.shares r.inputs xs ∙ tabulate-take v r.variables c F.fits in
      let count : length (poured ss) ≡ c = ap length front ∙ length-tabulate c v in
      let ys : List Poly = poured ss ++ behind r.shares r.inputs xs in
      ap (λ (j : ℕ). map length (take j (values A r.maps ys (poured ss) r.masked))) (sym count)
      ∙ ap (map length) (values-take A r.maps ys (poured ss) r.masked ∙ front)
      ∙ sizes-same c 1 v (variable-size (powers_of r))
