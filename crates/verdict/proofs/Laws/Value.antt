-- The polynomials of judge have the values of run: to put bytes in is a homomorphism, and the difference is reduced.
-- Assumes nothing.
use Rattle.std.proofs.Common.{◌≡◌, ℕ, zero, suc, ◌+◌, ◌-◌, ◌<◌, ◌≤◌, List, [], ◌∷◌, map, length, get_or, sym, refl, ap, ◌∙◌, ap₂, arith}
use Rattle.field.specs.Xor.{◌⊕◌}
use Rattle.field.specs.Field.{Modulus, times, squared}
use Rattle.field.specs.Field.Modulus.{aes}
use Rattle.field.specs.Laws.{gf}
use Rattle.field.specs.Maps.{sum, affine, coefficients_of, Bytes8}
use Rattle.field.proofs.Laws.Field.{gf_laws}
use Rattle.field.proofs.Laws.Modulus.{periodic}
use Rattle.field.proofs.Laws.Sums.{sum_first}
use Rattle.field.proofs.Laws.Maps.{series-squared}
use Rattle.field.proofs.Laws.Pairing.{coefficients_represent, coefficients_of-bytes}
use Rattle.poly.specs.Poly.{Poly, constant, variable}
use Rattle.poly.specs.Value.{eval, linear, map_byte}
use Rattle.poly.specs.Canon.{ByteList, Spare, Powers, Canon}
use Rattle.poly.proofs.Laws.Value.{eval-byte, eval-constant, eval-variable, eval_add, eval_mul, eval-map}
use Rattle.poly.proofs.Laws.Reduced.{add_pows-spare, zeros-spare, unit-spare, add-powers, mul-powers, map-powers}
use Rattle.poly.proofs.Laws.Reduced.{canon-constant, canon-variable, canon-add, canon-mul, canon-map}
use Rattle.rules.specs.declared.types.AffineMap.{AffineMap}
use Rattle.rules.specs.Read.{Routine}
use Rattle.verdict.specs.Lists.{tabulate}
use Rattle.verdict.specs.Meaning.{trace, result_in, joined_in}
use Rattle.verdict.specs.Instances.{modulus_of, bytes, polynomials, powers_of, bytes_of, polynomials_of, symbolic}
use Rattle.verdict.specs.Instances.{reduced_result, difference}
use Rattle.verdict.specs.Run.{run_values, result_at, joined_at}
use Rattle.rules.specs.Formed.{Each, IsByte, FormedMap, Formed}
use Rattle.verdict.proofs.Laws.Lists.{map-tabulate, each_at, each-tabulate}
use Rattle.verdict.proofs.Laws.Meaning.{Homomorphism, result_hom, difference_hom}
use Rattle.verdict.proofs.Laws.Closed.{Closed, result-closed, difference-closed}

-- ---- a map by its coefficients

linear-sum : (m : ℕ) (ls : List ℕ) (x : ℕ) → linear (gf m) ls x
    ≡ sum (length ls) (λ j. times m (get_or ls j 0) (squared (times m) j x))
unfolding sum
linear-sum m [] x = refl
linear-sum m (l ∷ ls) x =
    ap (λ (y : ℕ). times m l x ⊕ y) (linear-sum m ls (times m x x))
    ∙ sym (sum_first (length ls) (λ j. times m (get_or (l ∷ ls) j 0) (squared (times m) j x)))

-- reduced, with n powers in a term, of which the first v are in use and the last k are not
abbrev pub Reduced : ℕ → ℕ → ℕ → Poly → Type 0
Reduced v k n p = Canon n p × Powers (Spare v k) p

-- eight columns of bytes, as the field's laws ask for them
pub columns-bytes : {f : AffineMap} → FormedMap f → Bytes8 f.columns
columns-bytes {f} F = record {
  eight = F.eight;
  byte = λ i h.
      each_at IsByte f.columns 0 F.columns (omega arith) i;
}

module _ {m : ℕ} (M : Modulus m) where
  -- the value of a map by its coefficients is its value by its columns
  pub map-value : (f : AffineMap) → FormedMap f → (x : ℕ) → x < 256
      → map_byte (gf m) f.constant (coefficients_of m f.columns) x ≡ affine f.constant f.columns x
  map-value f F x h =
      let ls = coefficients_of m f.columns in
      ap (λ (y : ℕ). f.constant ⊕ y)
      (linear-sum m ls x
      ∙ ap (λ (n : ℕ). sum n (λ j. times m (get_or ls j 0) (squared (times m) j x)))
      (coefficients_of-bytes M f.columns).eight
      ∙ sym (series-squared (periodic M).ring ls x h))
      ∙ sym (coefficients_represent M f.constant f.columns (columns-bytes F) x h)

  -- THEOREM: to put bytes in takes the operations on polynomials to those on bytes
  pub value_hom : (n v : ℕ) (xs : List ℕ) → ByteList v xs
      → Homomorphism (polynomials m n) (bytes m) (λ p. eval (gf m) p xs)
  unfolding polynomials bytes
  value_hom n v xs h = record {
    byte = λ c l. eval-constant (gf m) (gf_laws M) n c xs l;
    add = λ p q. eval_add (gf m) (gf_laws M) p q xs;
    mul = λ p q. eval_mul (gf m) (gf_laws M) v p q xs h;
    apply = λ f F p.
        eval-map (gf m) (gf_laws M) n v f.constant (coefficients_of m f.columns) p xs F.constant h
        ∙ map-value f F (eval (gf m) p xs) (eval-byte (gf m) (gf_laws M) p xs);
  }

  -- THEOREM: the operations keep polynomials reduced, and their last k powers unused
  pub reduced_closed : (v k n : ℕ) → n ≡ v + k → Closed (polynomials m n) (Reduced v k n)
  unfolding polynomials
  reduced_closed v k n e = record {
    byte = λ c l. (canon-constant n c l, constant-spare c);
    add = λ p q h g. (canon-add (gf m) (gf_laws M) p q h.0 g.0, add-powers (gf m) (Spare v k) p q h.1 g.1);
    mul = λ p q h g. (
      canon-mul (gf m) (gf_laws M) p q h.0 g.0,
      mul-powers (gf m) (Spare v k) (add_pows-spare v k) p q h.1
          g.1,
    );
    apply = λ f F p h. (
      canon-map (gf m) (gf_laws M) f.constant (coefficients_of m f.columns) p F.constant h.0,
      map-powers (gf m) (Spare v k) (add_pows-spare v k) n f.constant (coefficients_of m f.columns) p
          (constant-spare f.constant) h.1,
    );
  }
    where
      constant-spare : (c : ℕ) → Powers (Spare v k) (constant n c)
      constant-spare zero = tt
      constant-spare (suc c) = (zeros-spare v k n e, tt)

  -- each variable has its byte for its value
  values_listed : (n : ℕ) (xs : List ℕ) → ByteList n xs → (g : ℕ → ℕ) → ((i : ℕ) → i < n → g i ≡ get_or xs i 0)
      → tabulate n g ≡ xs
  values_listed zero [] h g e = refl
  values_listed zero (x ∷ xs) h g e = absurd h
  values_listed (suc n) [] h g e = absurd h
  values_listed (suc n) (x ∷ xs) h g e =
      ap₂ {C = List ℕ} ◌∷◌ (e 0 (omega arith)) (values_listed n xs h.1 (λ i. g (suc i))
      (λ i l. e (suc i) (omega arith)))

  -- the variables have the bytes that are put in for their values
  pub variables-value : (n v : ℕ) → v ≤ n → (xs : List ℕ) → ByteList v xs
      → map (λ p. eval (gf m) p xs) (tabulate v (variable n)) ≡ xs
  variables-value n v i xs h =
      map-tabulate (λ p. eval (gf m) p xs) v (variable n)
      ∙ values_listed v xs h (λ i. eval (gf m) (variable n i) xs)
      (λ j l. eval-variable (gf m) (gf_laws M) n v j xs (omega arith) l h)

-- ---- a routine

-- the routine's modulus gives a field
pub modulus_of_lem : (r : Routine) → Modulus (modulus_of r)
unfolding modulus_of
modulus_of_lem r = aes

-- a term has a power for each variable
pub room_for : {r : Routine} → Formed r → r.variables ≤ powers_of r
unfolding powers_of
room_for F = omega arith

module _ (r : Routine) (F : Formed r) where
  -- THEOREM: the reduced difference has, on all bytes, the value of the original's result plus the joined outputs
  pub difference-value : (xs : List ℕ) → ByteList r.variables xs
      → eval (gf (modulus_of r)) (difference r) xs ≡ result_at r xs ⊕ joined_at r xs
  unfolding difference symbolic result_at joined_at run_values polynomials_of bytes_of bytes
  difference-value xs h =
      difference_hom (value_hom (modulus_of_lem r) (powers_of r) r.variables xs h) r F
      (tabulate r.variables (variable (powers_of r)))
      ∙ ap (λ (ys : List ℕ). result_in (bytes_of r) r (trace (bytes_of r) r ys).origin ⊕ joined_in (bytes_of r) r
      (trace (bytes_of r) r ys))
      (variables-value (modulus_of_lem r) (powers_of r) r.variables (room_for F) xs h)

  -- THEOREM: the reduced result has, on all bytes, the value of the original's result
  pub result_value : (xs : List ℕ) → ByteList r.variables xs
      → eval (gf (modulus_of r)) (reduced_result r) xs ≡ result_at r xs
  unfolding reduced_result symbolic result_at run_values polynomials_of bytes_of
  result_value xs h =
      result_hom (value_hom (modulus_of_lem r) (powers_of r) r.variables xs h) r F
      (tabulate r.variables (variable (powers_of r)))
      ∙ ap (λ (ys : List ℕ). result_in (bytes_of r) r (trace (bytes_of r) r ys).origin)
      (variables-value (modulus_of_lem r) (powers_of r) r.variables (room_for F) xs h)

  -- the operations on a routine's polynomials keep them reduced
  pub routine-closed : Closed (polynomials_of r) (Reduced r.variables (powers_of r - r.variables) (powers_of r))
  unfolding polynomials_of
  routine-closed =
      let room : r.variables ≤ powers_of r = room_for F in
      reduced_closed (modulus_of_lem r) r.variables (powers_of r - r.variables) (powers_of r) (omega arith)

  -- its variables are reduced
  pub variables_reduced : Each (Reduced r.variables (powers_of r - r.variables) (powers_of r))
      (tabulate r.variables (variable (powers_of r)))
  variables_reduced =
      let v = r.variables in
      let n = powers_of r in
      let room : v ≤ n = room_for F in
      let e : n ≡ v + (n - v) = omega arith in
      each-tabulate (Reduced v (n - v) n) v (variable n)
      (λ i l. (canon-variable n i, (unit-spare v (n - v) n i e l, tt)))

  -- THEOREM: it is reduced, and has no power past the routine's variables
  pub difference_reduced : Reduced r.variables (powers_of r - r.variables) (powers_of r) (difference r)
  unfolding difference symbolic
  difference_reduced =
      difference-closed routine-closed r F (tabulate r.variables (variable (powers_of r))) variables_reduced

  -- THEOREM: the original's result is reduced too
  pub result_reduced : Reduced r.variables (powers_of r - r.variables) (powers_of r) (reduced_result r)
  unfolding reduced_result symbolic
  result_reduced =
      result-closed routine-closed r F (tabulate r.variables (variable (powers_of r))) variables_reduced
