-- What the parts of run leave is what the definitions of run ask for.
-- Assumes nothing.
use Rattle.std.proofs.Common.{◌≡◌, ℕ, zero, suc, ◌+◌, ◌-◌, ◌*◌, List, [], ◌++◌, map, length, take, drop, sym, refl, ap, ◌∙◌, suc-mul, add_comm, zero-mul, arith, take-add, eq-eqb, ne_eqb}
use Rattle.text.specs.declared.routine.Routine as code
use Rattle.rules.specs.Read.{Routine}
use Rattle.text.specs.Routine.{routine_of, origin_of, masked_of, outputs_of}
use Rattle.verdict.specs.Lists.{lots, poured}
use Rattle.verdict.specs.Meaning.{value_at, values, joined, origin_values, masked_values, result_in, outputs_in}
use Rattle.verdict.specs.Meaning.{trace, joined_in}
use Rattle.verdict.specs.Instances.{modulus_of, bytes, bytes_of}
use Rattle.verdict.specs.Block.{input_values, Begun, Filled}
use Rattle.verdict.specs.Run.{run_values, result_at, joined_at, run_refused, run_routine}
use Rattle.verdict.proofs.Laws.Lists.{lots-behind}

-- the lots poured out are the front of the list
pub poured-front : {X : Type 0} (k m : ℕ) (xs : List X) → poured (lots k m xs) ≡ take (m * k) xs
poured-front k zero xs = rw (zero-mul k)
poured-front {X} k (suc m) xs =
    ap (λ (ys : List X). take k xs ++ ys) (poured-front k m (drop k xs))
    ∙ sym (take-add k (m * k) xs)
    ∙ ap (λ (n : ℕ). take n xs) (add_comm k (m * k) ∙ sym (suc-mul m k))

-- the original's result, from the values of its block
pub result_at_lem : (r : Routine) (xs : List ℕ)
    → result_at r xs
    ≡ value_at (bytes 27)
    (values (bytes 27) r.maps [] (input_values 27 r.shares r.inputs xs) r.origin) r.result
unfolding result_at run_values result_in trace origin_values bytes_of modulus_of
result_at_lem r xs = refl

-- the joined outputs, from the values of the masked block
pub joined_at_lem : (r : Routine) (xs : List ℕ)
    → joined_at r xs
    ≡ joined (bytes 27)
    (map
    (value_at (bytes 27) (values (bytes 27) r.maps xs (take (r.inputs * r.shares) xs) r.masked))
    r.outputs)
unfolding joined_at joined_in run_values outputs_in trace masked_values bytes_of modulus_of
joined_at_lem r xs =
    rw (lots-behind r.shares r.inputs xs, poured-front r.shares r.inputs xs)

module _ (r : code.Routine) (xs entry begun exit : List ℕ) (b : ℕ) where
  -- the origin block, filled behind the inputs' values
  pub original_ran : Begun r.inputs (input_values 27 r.shares r.inputs xs) entry begun
      → Filled 27 r 0 r.origin r.inputs [] begun exit
      → b ≡ value_at (bytes 27) (take (r.inputs + r.origin - 0) exit) r.result
      → b ≡ result_at (routine_of r) xs
  unfolding routine_of origin_of
  original_ran h f e =
      let o : r.origin - 0 ≡ r.origin = omega arith in
      let n : r.inputs + r.origin - 0 ≡ r.inputs + (r.origin - 0) = omega arith in
      e ∙ rw (n, f.filled, h.begun, o) (sym (result_at_lem (routine_of r) xs))

  -- the masked block, filled behind the shares
  pub masked_ran : Begun (r.inputs * r.shares) (take (r.inputs * r.shares) xs) entry begun
      → Filled 27 r r.origin (r.origin + r.masked) (r.inputs * r.shares) xs begun exit
      → b ≡ joined (bytes 27)
      (map (value_at (bytes 27) (take (r.inputs * r.shares + r.masked - 0) exit)) (outputs_of r))
      → b ≡ joined_at (routine_of r) xs
  unfolding routine_of masked_of
  masked_ran h f e =
      let n = r.inputs * r.shares in
      let k : r.origin + r.masked - r.origin ≡ r.masked = omega arith in
      let end : n + r.masked - 0 ≡ n + (r.origin + r.masked - r.origin) = omega arith in
      e ∙ rw (end, f.filled, h.begun, k) (sym (joined_at_lem (routine_of r) xs))

-- ---- the answer of run

module _ (r : Routine) (xs : List ℕ) where
  -- the bytes are not one for each variable
  pub run_refused_lem : (length xs ≡ r.variables → ⊥) → run_refused 11 0 ≡ run_routine r xs
  unfolding run_routine
  run_refused_lem h = rw (ne_eqb (length xs) r.variables h)

  -- they are
  pub run_taken : (a b : ℕ) → length xs ≡ r.variables → a ≡ result_at r xs → b ≡ joined_at r xs
      → record { original = a; joined = b; refusal = 0; line = 0 } ≡ run_routine r xs
  unfolding run_routine
  run_taken a b h p q = rw (eq-eqb (length xs) r.variables h, p, q)
