-- Definition 1 holds exactly where run's two bytes agree for every byte of every variable.
-- Assumes nothing.
use Rattle.std.proofs.Common.{◌≡◌, ℕ, ◌-◌, ◌*◌, ◌≤◌, List, ◌++◌, map, length, sym, refl, ap, ◌∙◌, ap₂, arith, length-append}
use lib.ListN.{length-map}
use Rattle.poly.specs.Canon.{ByteList}
use Rattle.rules.specs.Read.{Routine}
use Rattle.verdict.specs.Lists.{lots, behind, poured}
use Rattle.verdict.specs.Meaning.{joined, trace, joined_in}
use Rattle.verdict.specs.Instances.{bytes_of}
use Rattle.verdict.specs.Equivalent.{original, masked, randoms, Equivalent}
use Rattle.verdict.specs.Run.{run_values, result_at, joined_at}
use Rattle.verdict.specs.Verdict.{Agrees}
use Rattle.rules.specs.Formed.{Each, IsByte, Formed}
use Rattle.verdict.proofs.Laws.Lists.{Square, parts-poured, each-poured, each-lots}
use Rattle.rules.proofs.Laws.Letting.{each_append}
use Rattle.verdict.proofs.Laws.Lists.{each-behind, each_map}
use Rattle.verdict.proofs.Laws.Lists.{length-poured, square-lots, length-lots, length-behind}
use Rattle.verdict.proofs.Laws.Closed.{joined-closed}
use Rattle.verdict.proofs.Laws.Value.{modulus_of_lem}
use Rattle.verdict.proofs.Laws.Bytes.{bytes-closed, bytes-each, bytes-length, bytes_of_lem, encodings_square}
use Rattle.verdict.proofs.Laws.Bytes.{encodings_each, encodings_of}

-- ---- run's bytes are the original's and the masked form's, on the inputs' shares and the random bytes

-- the first byte is the original's, on the XOR of each input's shares
pub result-original : (r : Routine) (xs : List ℕ) → result_at r xs
    ≡ original r (map (joined (bytes_of r)) (lots r.shares r.inputs xs))
unfolding result_at run_values trace original
result-original r xs = refl

-- the second byte is the XOR of the masked form's, on the shares and the random bytes
pub joined-masked : (r : Routine) (xs : List ℕ)
    → joined_at r xs
    ≡ joined (bytes_of r) (masked r (lots r.shares r.inputs xs) (behind r.shares r.inputs xs))
unfolding joined_at run_values trace joined_in masked
joined-masked r xs = refl

module _ (r : Routine) (F : Formed r) where
  -- THEOREM: where run's two bytes agree everywhere, Definition 1 holds
  pub agrees_equivalent : Agrees r → Equivalent r
  unfolding Equivalent randoms
  agrees_equivalent h a rs s la lr ls e =
      let k = r.shares in
      let m = r.inputs in
      let q : Square k m s = encodings_square k m s ls in
      let xs : List ℕ = poured s ++ rs in
      let fits : m * k ≤ r.variables = F.fits in
      let n : length xs ≡ r.variables =
      omega (
        arith,
        length-append (poured s) rs,
        length-poured k m s q,
        bytes-length (r.variables - m * k) rs
            lr,
      ) in
      let b : ByteList r.variables xs =
      bytes_of_lem r.variables xs n (each_append IsByte (poured s) rs
      (each-poured IsByte s (encodings_each k m s ls)) (bytes-each (r.variables - m * k) rs lr)) in
      let parts = parts-poured k m s rs q in
      ap (original r) (e ∙ ap (map (joined (bytes_of r))) (sym parts.0))
      ∙ sym (result-original r xs) ∙ h xs b ∙ joined-masked r xs
      ∙ ap₂ (λ (t : List (List ℕ)) (u : List ℕ). joined (bytes_of r) (masked r t u)) parts.0 parts.1

  -- THEOREM: where Definition 1 holds, run's two bytes agree everywhere
  pub equivalent_agrees : Equivalent r → Agrees r
  unfolding Equivalent randoms bytes_of
  equivalent_agrees h xs b =
      let k = r.shares in
      let m = r.inputs in
      let s : List (List ℕ) = lots k m xs in
      let each : Each IsByte xs = bytes-each r.variables xs b in
      let n : length xs ≡ r.variables = bytes-length r.variables xs b in
      let fits : m * k ≤ r.variables = F.fits in
      let q : Square k m s = square-lots k m xs (omega arith) in
      let all : Each (Each IsByte) s = each-lots IsByte k m xs each in
      let a : List ℕ = map (joined (bytes_of r)) s in
      let la : ByteList m a =
      bytes_of_lem m a (length-map s (joined (bytes_of r)) ∙ length-lots k m s q)
      (each_map (Each IsByte) IsByte (joined (bytes_of r)) (joined-closed (bytes-closed (modulus_of_lem r))) s
      all) in
      let lr : ByteList (r.variables - m * k) (behind k m xs) =
      bytes_of_lem (r.variables - m * k) (behind k m xs) (omega (arith, length-behind k m xs (omega arith)))
      (each-behind IsByte k m xs each) in
      result-original r xs ∙ h a (behind k m xs) s la lr (encodings_of k m s q all) refl ∙ sym (joined-masked r xs)
