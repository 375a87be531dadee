-- The search over the difference: what it asks, and that the bytes found stand at the front of the list.
-- Assumes nothing.
use mathlib.Core.Path.{◌≡◌, sym, ap, ap₂, ◌∙◌, subst}
use Prim.Native.Nat.{ℕ, ◌+◌, ◌*◌, ◌-◌, ◌≤◌}
use native.Mathlib.Omega.{arith}
use native.Mathlib.Nat.{add-zero}
use mathlib.Core.List.{List, ◌++◌}
use lib.ListN.{length, take, drop, get_or, take-append-drop, length-drop}
use lib.Seq.{take_all, length-take-le, get_or-drop, ext_get_or}
use Rattle.field.specs.Field.Modulus.{aes}
use Rattle.field.specs.Laws.{gf}
use Rattle.poly.specs.Poly.{Poly}
use Rattle.poly.specs.First.{first_differing, tried}
use Rattle.poly.specs.Canon.{Canon}
use Rattle.buffer.specs.Buffer.{read_terms}
use Rattle.search.specs.Search.{SearchAsked, Searched}
use Rattle.text.specs.declared.routine.Routine as code
use Rattle.text.specs.Routine.{routine_of}
use Rattle.text.specs.Ready.{Ready}
use Rattle.verdict.specs.Instances.{modulus_of, powers_of, difference}
use Rattle.verdict.specs.Judge.{fronted}
use Rattle.verdict.proofs.Laws.Value.{difference_reduced}
use Rattle.values.specs.Load.{LayAsked}
use Rattle.survey.specs.Survey.{modulus, term_bytes}
use Rattle.judge.specs.Settle.{ChooseAsked, chosen, Chosen}
use Rattle.values.proofs.Laws.Forming.{read-drop, end_room}

-- a list whose first v bytes became bs, the others as they were
pub fronted-by : (bs l l' : List ℕ) (v : ℕ) → take v l' ≡ bs → v ≤ length l → length l' ≡ length l
    → ((j : ℕ) → v ≤ j → get_or l' j 0 ≡ get_or l j 0) → l' ≡ fronted bs l
unfolding fronted
fronted-by bs l l' v e h n b =
    let z : length bs ≡ v = ap length (sym e) ∙ length-take-le v l' (omega arith) in
    let same : length (drop v l') ≡ length (drop v l) = omega (arith, length-drop v l', length-drop v l) in
    let tails : drop v l' ≡ drop v l =
    ext_get_or 0 (drop v l') (drop v l) same (λ j k. get_or-drop v l' j 0 ∙ b (v + j) (omega arith)
    ∙ sym (get_or-drop v l j 0)) in
    sym (take-append-drop v l') ∙ ap₂ (λ (x y : List ℕ). x ++ y) e (tails ∙ ap (λ (k : ℕ). drop k l) (sym z))

module _ {r : code.Routine} (Q : Ready r) {left : List ℕ} {top k : ℕ} {list : List ℕ}
    (A : ChooseAsked r left top k list) where
  -- the buffer from the difference on
  abbrev rest : List ℕ
  rest = take (length left - top * term_bytes r) (drop (top * term_bytes r) left)

  rest-terms : read_terms (term_bytes r - 1) rest 0 k ≡ difference (routine_of r)
  rest-terms =
      ap (λ (b : List ℕ). read_terms (term_bytes r - 1) b 0 k)
      (take_all (length left - top * term_bytes r) (drop (top * term_bytes r) left)
      (omega (arith, length-drop (top * term_bytes r) left)))
      ∙ read-drop (term_bytes r - 1) left (top * term_bytes r) 0 k
      ∙ ap (λ (x : ℕ). read_terms (term_bytes r - 1) left x k) (add-zero (top * term_bytes r))
      ∙ A.terms

  powers : r.variables ≡ term_bytes r - 1
  powers = omega arith

  rest-canon : Canon (term_bytes r - 1) (read_terms (term_bytes r - 1) rest 0 k)
  unfolding routine_of powers_of
  rest-canon =
      subst (Canon (term_bytes r - 1)) (sym rest-terms)
      (subst (λ (n : ℕ). Canon n (difference (routine_of r))) powers
      (difference_reduced (routine_of r) Q.formed).0)

  lay : LayAsked left top k (term_bytes r)
  lay = record { some = omega arith; most = omega (arith, Q.counted.room); room = A.room }

  -- the search is asked what holds
  pub search_asked : SearchAsked modulus rest k (term_bytes r) list
  search_asked = record {
    modulus = aes;
    some = A.some;
    wide = omega arith;
    few = omega (arith, Q.counted.room);
    source = end_room (term_bytes r) top k left lay;
    canon = rest-canon;
    list = omega (arith, Q.counted.room, A.long);
  }

  bytes_chosen : first_differing (gf modulus) (term_bytes r - 1) (read_terms (term_bytes r - 1) rest 0 k) ≡ chosen r
  unfolding modulus_of
  bytes_chosen = ap₂ (λ (v : ℕ) (p : Poly). first_differing (gf modulus) v p) (sym powers) rest-terms

  -- the chosen bytes stand at the front of the list
  pub chosen-listed : (rest' list' : List ℕ) (n : ℕ) → Searched modulus rest rest' k (term_bytes r) list list' n
      → Chosen r list list' n
  chosen-listed rest' list' n h = record {
    listed =
        fronted-by (chosen r) list list' (term_bytes r - 1) (h.found
        ∙ bytes_chosen) (omega (arith, Q.counted.room, A.long))
        h.listed (λ j l. h.behind j (omega arith));
    count = h.count ∙ ap tried bytes_chosen;
  }
