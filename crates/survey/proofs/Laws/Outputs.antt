-- The outputs laid one behind the other, and the difference as one sum.
-- Assumes nothing.
use mathlib.Core.Path.{◌≡◌, refl, sym, ap, ap₂, ◌∙◌, subst}
use Prim.Native.Nat.{ℕ, zero, suc, ◌+◌, ◌*◌, ◌-◌, ◌≤◌, ◌<◌}
use native.Mathlib.Omega.{arith}
use native.Mathlib.Numerals.{add-one}
use native.Mathlib.Nat.{le_of_suc-le-suc, mul-le-mul_right, zero-mul}
use mathlib.Core.List.{List, [], ◌∷◌, ◌++◌, map, append_assoc, append-nil}
use lib.ListN.{length, take, drop, get_or, length-append}
use lib.Seq.{length-take-le}
use Rattle.field.specs.Field.{Modulus}
use Rattle.field.specs.Laws.{gf}
use Rattle.field.proofs.Laws.Field.{gf_laws}
use Rattle.poly.specs.Poly.{Poly, normal, add_poly, into}
use Rattle.poly.specs.Canon.{Raw}
use Rattle.poly.proofs.Laws.Sum.{raw_append, sum-normal-right}
use Rattle.rules.specs.Formed.{Each}
use Rattle.verdict.specs.Lists.{poured}
use Rattle.verdict.specs.Meaning.{joined, operand, value_at}
use Rattle.verdict.specs.Instances.{polynomials}
use Rattle.rules.specs.declared.types.Operand.TheVariants.{Place}
use Rattle.buffer.proofs.Lent.Strides.{row_count}
use Rattle.verdict.proofs.Laws.Parts.{row_next}
use Rattle.values.specs.declared.shelf.Shelf.{Shelf}
use Rattle.values.specs.declared.source.Source.{Source}
use Rattle.values.specs.declared.source.Scope.{Scope}
use Rattle.values.specs.Shelf.{Laid}
use Rattle.values.specs.Source.{source_of, source_size, Located}
use Rattle.values.specs.Load.{LayAsked, LoadAsked}
use Rattle.buffer.specs.Insert.{Holds}
use Rattle.buffer.specs.Buffer.{read_terms}
use Rattle.poly.proofs.Laws.Sum.{into-none}
use Rattle.values.proofs.Laws.Forming.{back, laid_end}
use Rattle.survey.specs.Difference.{placed, output_terms, OutputsAsked, OutputsLaid, OutputsSized}
use Rattle.values.specs.Raw.{most_standing, OperandSized}
use Rattle.values.proofs.Laws.Sources.{source-length}
use Rattle.values.proofs.Laws.Laying.{laid_append}

-- ---- the first i outputs, one behind the other

module _ (f : ℕ → Poly) where
  -- the terms of the first i outputs
  abbrev pub laid_outputs : List ℕ → ℕ → Poly
  laid_outputs o i = poured (map f (take i o))

  more : (o : List ℕ) (i : ℕ) → i < length o → laid_outputs o (suc i) ≡ laid_outputs o i ++ f (get_or o i 0)
  more [] i h = absurd (omega arith)
  more (x ∷ o) zero h = append-nil (f x)
  more (x ∷ o) (suc i) h = ap (λ (p : Poly). f x ++ p) (more o i (le_of_suc-le-suc h))
      ∙ sym (append_assoc (f x) (laid_outputs o i) (f (get_or o i 0)))

  -- one output more
  pub outputs-more : (o : List ℕ) (i : ℕ) → i < length o → laid_outputs o (i + 1) ≡ laid_outputs o i ++ f (get_or o i 0)
  outputs-more o i h = ap (laid_outputs o) (add-one i) ∙ more o i h

  -- it has room where all of them have
  pub outputs-room : (o : List ℕ) (i : ℕ) → i < length o
      → length (laid_outputs o i) + length (f (get_or o i 0)) ≤ length (poured (map f o))
  outputs-room [] i h = absurd (omega arith)
  outputs-room (x ∷ o) zero h = omega (arith, length-append (f x) (poured (map f o)))
  outputs-room (x ∷ o) (suc i) h =
      omega (
        arith,
        length-append (f x) (poured (map f o)),
        length-append (f x) (laid_outputs o i),
        outputs-room o i (le_of_suc-le-suc h),
      )

-- ---- the difference

module _ (m n : ℕ) (M : Modulus m) where
  raw-poured : (ps : List Poly) → Each (Raw n) ps → Raw n (poured ps)
  raw-poured [] h = record { coefs = tt; powers = tt }
  raw-poured (p ∷ ps) h = raw_append p (poured ps) h.0 (raw-poured ps h.1)

  -- the XOR of polynomials is one sum of all their terms
  pub joined-normal : (ps : List Poly) → Each (Raw n) ps → joined (polynomials m n) ps ≡ normal (gf m) (poured ps)
  unfolding joined polynomials
  joined-normal [] h = refl
  joined-normal (p ∷ ps) h =
      ap (add_poly (gf m) p) (joined-normal ps h.1)
      ∙ sum-normal-right (gf m) (gf_laws M) p (poured ps) h.0 (raw-poured ps h.1)

  -- the difference is one sum of the terms of the result and of all outputs
  pub difference-normal : (p : Poly) (ps : List Poly) → Raw n p → Each (Raw n) ps
      → add_poly (gf m) p (joined (polynomials m n) ps) ≡ normal (gf m) (p ++ poured ps)
  difference-normal p ps r h =
      ap (add_poly (gf m) p) (joined-normal ps h) ∙ sum-normal-right (gf m) (gf_laws M) p (poured ps) r (raw-poured ps h)

-- ---- the loop of `load_outputs`

module _ {left outputs : List ℕ} {s : Scope} {d : Shelf} {right₀ : List ℕ} {from w : ℕ}
    (Q : OutputsAsked left outputs s d right₀ from w) where
  abbrev terms : ℕ → Poly
  terms i = output_terms w left d s (take i outputs)

  abbrev Done : ℕ → List ℕ → ℕ → Type 0
  Done i right k = OutputsLaid left (take i outputs) s d right₀ right from w k

  module _ {i : ℕ} {right : List ℕ} {k : ℕ} {r : Source} (l : i < length outputs) (H : Done i right k)
      (L : Located s d (Place (get_or outputs i 0)) r) where
    found : source_of w left r ≡ placed w left d s (get_or outputs i 0)
    unfolding operand value_at polynomials
    found = L.means 0 w left

    size_is : length (placed w left d s (get_or outputs i 0)) ≡ source_size r
    size_is = ap length (sym found) ∙ source-length w left r

    fits_in : k + source_size r ≤ from + length (output_terms w left d s outputs)
    fits_in = omega (arith, H.count, size_is, outputs-room (placed w left d s) outputs i l)

    -- the next output has room
    pub output-asked : LoadAsked left r right k w
    output-asked = record {
      top = d.top;
      held = Q.held;
      fits = L.fits w Q.wide;
      asked = record {
        some = omega (arith, Q.wide);
        most = Q.most;
        room = omega (arith, mul-le-mul_right w fits_in, Q.room, H.laid.size);
      };
    }

    -- the count stays a small number
    pub output-small : k + source_size r ≤ length right₀
    output-small = omega (arith, fits_in, Q.room, row_count (from + length (output_terms w left d s outputs)) w (omega (arith, Q.wide)))

    -- one output more is laid
    pub output-more : (right' : List ℕ) (z : ℕ) → z ≡ source_size r
        → Laid w right right' k (source_size r) (source_of w left r) → Done (i + 1) right' (k + z)
    output-more right' z e h =
        let t : terms (i + 1) ≡ terms i ++ placed w left d s (get_or outputs i 0) = outputs-more
        (placed w left d s) outputs i l in
        let n : length (terms (i + 1)) ≡ length (terms i) + source_size r = ap length t
        ∙ length-append (terms i) (placed w left d s (get_or outputs i 0))
        ∙ ap (λ (x : ℕ). length (terms i) + x) size_is in
        let g : Laid w right right' (from + length (terms i)) (source_size r) (placed w left d s (get_or outputs i 0)) =
        subst (Laid w right right' (from + length (terms i)) (source_size r)) found
        (subst (λ (x : ℕ). Laid w right right' x (source_size r) (source_of w left r)) H.count h) in
        record {
          count = omega (arith, n, H.count);
          laid = subst (λ (p : Poly). Laid w right₀ right' from (length (terms (i + 1))) p) (sym t)
              (subst (λ (x : ℕ). Laid w right₀ right' from x (terms i ++ placed w left d s (get_or outputs i 0))) (sym n)
              (laid_append w right₀ right right' from (length (terms i)) (source_size r) (terms i)
              (placed w left d s (get_or outputs i 0)) (omega (arith, Q.wide)) H.laid g));
        }

-- ---- the ways out of `form_difference`

module _ {left outputs : List ℕ} {s : Scope} {d : Shelf} {right r₁ : List ℕ} {a : Source} {top w i : ℕ}
    (e : i ≡ source_size a)
    (P : LoadAsked left a right 0 w) (Q : OutputsAsked left outputs s d right (source_size a) w)
    (l : LayAsked left top (source_size a + length (output_terms w left d s outputs)) w)
    (h : Laid w right r₁ 0 (source_size a) (source_of w left a)) where
  abbrev all : Poly
  all = output_terms w left d s outputs

  module _ {r₂ : List ℕ} {k : ℕ} (g : OutputsLaid left outputs s d r₁ r₂ i w k) where
    total : k ≡ source_size a + length all
    total = g.count ∙ ap (λ (x : ℕ). x + length all) e

    both : read_terms (w - 1) r₂ 0 k ≡ source_of w left a ++ all
    both =
        let z : 0 + source_size a ≡ source_size a = omega arith in
        let u : Laid w r₁ r₂ (0 + source_size a) (length all) all = subst (λ (x : ℕ). Laid w r₁ r₂ x (length all) all) (e
        ∙ sym z) g.laid in
        ap₂ (λ (x y : ℕ). read_terms (w - 1) r₂ x y) (sym (zero-mul w)) total
        ∙ (laid_append w right r₁ r₂ 0 (source_size a) (length all) (source_of w left a) all P.asked.some h u).terms

    -- what is inserted among no terms is one sum of them all
    pub difference-formed : (m y r : ℕ) (x : List ℕ)
        → Holds (take (length left - top * w) (drop (top * w) left)) x w y r (into (gf m) (read_terms (w - 1) r₂ 0 k) [])
        → Laid w left (back left (top * w) x) top r (normal (gf m) (source_of w left a ++ all))
    difference-formed m y r x q =
        laid_end w top (source_size a + length all) r left x _ l
        (subst (Holds (take (length left - top * w) (drop (top * w) left)) x w y r)
        (into-none (gf m) (read_terms (w - 1) r₂ 0 k) ∙ ap (normal (gf m)) both) q)

-- ---- the loop of `outputs_size`

-- one output more is counted
pub sized-more : (outputs : List ℕ) (s : Scope) (d : Shelf) (i k z : ℕ) → i < length outputs
    → OutputsSized (take i outputs) s d k
    → OperandSized s d (Place (get_or outputs i 0)) z → OutputsSized (take (i + 1) outputs) s d (k + z)
unfolding operand value_at polynomials
sized-more outputs s d i k z l h g = record {
  means = λ w b.
      ap₂ (λ (x y : ℕ). x + y) (h.means w b) (g.means 0 w b)
      ∙ sym (ap length (outputs-more (placed w b d s) outputs i l)
      ∙ length-append (output_terms w b d s (take i outputs)) (placed w b d s (get_or outputs i 0)));
  most =
      let a : length (take i outputs) ≡ i = length-take-le i outputs (omega arith) in
      let b : length (take (i + 1) outputs) ≡ i + 1 = length-take-le (i + 1) outputs (omega arith) in
      rw b (omega (arith, rw a at h.most, g.most, row_next i most_standing));
}
