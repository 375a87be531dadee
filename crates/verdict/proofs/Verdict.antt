-- Judge's outcome for an accepted text claims what holds, and no other outcome does. It turns on three facts: the
-- reduced difference has run's values, a reduced polynomial with a term differs from zero somewhere, and a variable on
-- which its values do not depend does not occur in it.
-- Assumes nothing.
use Rattle.std.proofs.Common.{◌≡◌, ℕ, suc, ◌-◌, ◌≤◌, true, false, ◌≢◌, ◌⊎◌, ◌↔◌, List, [], ◌∷◌, length, take, sym, refl, ap, ◌∙◌, subst, ap₂, inl, inr, arith, take_all, eqb-true}
use Rattle.std.specs.Prelude.{Option, None as none, Some as some}
use Rattle.field.specs.Xor.{◌⊕◌}
use Rattle.field.specs.Laws.{Ops, Laws, gf}
use Rattle.field.proofs.Laws.Xor.{⊕_self, ⊕-zero_eq}
use Rattle.field.proofs.Laws.Field.{gf_laws}
use Rattle.poly.specs.Poly.{Poly}
use Rattle.poly.specs.First.{highest, first_differing, sum, tried}
use Rattle.poly.specs.Value.{eval}
use Rattle.poly.specs.Canon.{Within, ByteList, Some, Canon}
use Rattle.poly.proofs.Laws.Unique.{vanishes}
use Rattle.poly.proofs.Laws.First.{first-bytes, first-differs, first-least, first-highest, highest-bytes}
use Rattle.poly.proofs.Laws.Least.{first-only}
use Rattle.rules.specs.Read.{Routine}
use Rattle.verdict.specs.Instances.{modulus_of, powers_of, symbolic, difference}
use Rattle.verdict.specs.Run.{result_at, joined_at}
use Rattle.verdict.specs.Count.{step_at, steps, standing, most_terms, unknown_line}
use Rattle.verdict.specs.Idle.{idle}
use Rattle.verdict.specs.declared.report.Trials.{Trials}
use Rattle.verdict.specs.Trials as trials
use Rattle.verdict.specs.Trials.{trial_at, agrees_on, try}
use Rattle.verdict.specs.Judge.{Outcome, refused, equal, differs, unknown, found, decided, given_up, settled}
use Rattle.verdict.specs.Judge.{judge_routine}
use borrow.Author.Tests.{eqb-false}
use native.Mathlib.Decide.{dec_le}
use Rattle.verdict.proofs.Laws.Trials.{try-none, try-some, trial_bytes_lem}
use Rattle.verdict.specs.Verdict.{places_of, GivenUp, Decided, Agrees, Equals, Differing, FirstPlace}
use Rattle.verdict.specs.Verdict.{TrialsAgree, Finds, Claims}
use Rattle.rules.specs.Formed.{Formed}
use Rattle.verdict.proofs.Laws.Value.{modulus_of_lem, room_for, difference-value, difference_reduced}
use Rattle.verdict.proofs.Laws.Bytes.{bytes-length}
use Rattle.verdict.proofs.Laws.Idle.{tally_unique, idle-counts}
use Rattle.verdict.proofs.Laws.Count.{over-found, over_none, first_one}
use Rattle.verdict.proofs.Laws.Definition.{agrees_equivalent, equivalent_agrees}

-- ---- the count

-- the line that the count gives up at, from the claims
line-none : (r : Routine) → unknown_line r (symbolic r) ≡ none → Decided r
unfolding unknown_line places_of
line-none r e = over_none (most_terms r) (standing r (steps r (symbolic r))) (steps r (symbolic r)) e

line-some : (r : Routine) (line : ℕ) → unknown_line r (symbolic r) ≡ some line → FirstPlace r line
unfolding unknown_line places_of
line-some r line e =
    let f = over-found (most_terms r) (standing r (steps r (symbolic r))) (steps r (symbolic r)) line e in
    record { at = f.0; given = f.1; lined = f.2 }

-- judge's outcome, by the count and the difference
pub judge_settled : (t : Trials) (r : Routine) → judge_routine t r
    ≡ settled t r (unknown_line r (symbolic r)) (difference r)
unfolding judge_routine difference
judge_settled t r = refl

module _ (r : Routine) (F : Formed r) where
  -- ---- the difference

  -- a difference with no term agrees everywhere
  none_agrees : difference r ≡ [] → Agrees r
  none_agrees e xs b =
      ⊕-zero_eq (result_at r xs) (joined_at r xs)
      (sym (difference-value r F xs b) ∙ ap (λ (p : Poly). eval (gf (modulus_of r)) p xs) e)

  -- and one that agrees everywhere has no term
  agrees_none : Agrees r → difference r ≡ []
  agrees_none h =
      vanishes (gf (modulus_of r)) (gf_laws (modulus_of_lem r)) r.variables (powers_of r - r.variables) (powers_of r)
      (difference r) (room_for F)
      (difference_reduced r F).0 (difference_reduced r F).1
      (λ xs b. difference-value r F xs b ∙ ap (λ (y : ℕ). y ⊕ joined_at r xs) (h xs b) ∙ ⊕_self (joined_at r xs))

  -- THEOREM: no term is left exactly where run's two bytes agree for every byte of every variable
  pub no_term_iff : (difference r ≡ []) ↔ Agrees r
  no_term_iff = (none_agrees, agrees_none)

  -- run's two bytes, from the value of the difference
  value-differs : (xs : List ℕ) → ByteList r.variables xs → eval (gf (modulus_of r)) (difference r) xs ≢ 0
      → result_at r xs ≢ joined_at r xs
  value-differs xs b n e =
      n (difference-value r F xs b ∙ ap (λ (y : ℕ). y ⊕ joined_at r xs) e ∙ ⊕_self (joined_at r xs))

  value_agrees : (xs : List ℕ) → ByteList r.variables xs → eval (gf (modulus_of r)) (difference r) xs ≡ 0
      → result_at r xs ≡ joined_at r xs
  value_agrees xs b e = ⊕-zero_eq (result_at r xs) (joined_at r xs) (sym (difference-value r F xs b) ∙ e)

  -- all highest powers are those of the variables
  bounded-all : (bs : List ℕ) (p : Poly) → Canon (powers_of r) p
      → Within (take r.variables (highest (powers_of r) p)) bs → Within (highest r.variables p) bs
  unfolding powers_of
  bounded-all bs p c h =
      let v = r.variables in
      let size : length (highest v p) ≡ v = bytes-length v (highest v p) (highest-bytes v p c.powers) in
      subst (λ (ds : List ℕ). Within ds bs) (take_all v (highest v p) (omega arith)) h

  -- what the first differing bytes claim
  differing : Decided r → Some (difference r) → Differing r (length (difference r)) (idle r)
      (first_differing (gf (modulus_of r)) r.variables (difference r))
  differing d s =
      let G : Ops = gf (modulus_of r) in
      let L : Laws G = gf_laws (modulus_of_lem r) in
      let v = r.variables in
      let n = powers_of r in
      let p : Poly = difference r in
      let bs : List ℕ = first_differing G v p in
      let b : ByteList v bs = first-bytes G L v n p (room_for F) (difference_reduced r F).0 s in
      record {
        counted = d;
        bytes = b;
        differ = value-differs bs b (first-differs G L v (n - v) n p (difference_reduced r F).0
            (difference_reduced r F).1 s);
        first = λ xs c l. value_agrees xs c (first-least G L v p xs l);
        bounded = bounded-all bs p (difference_reduced r F).0
            (first-highest G L v n p (room_for F) (difference_reduced r F).0 s);
        termed = refl;
        idled = idle-counts r F;
      }

  -- ---- THEOREM: the outcome claims what holds

  decided-claims : (t : Trials) → Decided r → (p : Poly) → difference r ≡ p → Claims t r (decided r p)
  unfolding decided
  decided-claims t d [] e = record {
    counted = d;
    equivalent = agrees_equivalent r F (none_agrees e);
    idled = idle-counts r F;
  }
  decided-claims t d (x ∷ p) e =
      subst (λ (q : Poly). Differing r (length q) (idle r) (first_differing (gf (modulus_of r)) r.variables q)) e
      (differing d (subst Some (sym e) tt))

  -- ---- the trials of a text that is given up

  -- run's two bytes, by the test
  told_same : (xs : List ℕ) → agrees_on r xs ≡ true → result_at r xs ≡ joined_at r xs
  unfolding agrees_on
  told_same xs h = eqb-true (result_at r xs) (joined_at r xs) h

  told-differ : (xs : List ℕ) → agrees_on r xs ≡ false → result_at r xs ≢ joined_at r xs
  unfolding agrees_on
  told-differ xs h = eqb-false (result_at r xs) (joined_at r xs) h

  -- what the trials claim
  trials_claim : (t : Trials) (line : ℕ) → FirstPlace r line → (g : trials.Found) → try r t.count t.start ≡ g
      → Claims t r (given_up t.count line g)
  unfolding given_up trial_at
  trials_claim t line p trials.nothing e = record {
    first = p;
    agree = λ i l. told_same (trial_at r t.start i) (try-none r t.count 0 t.start e i l);
    all = refl;
  }
  trials_claim t line p (trials.bytes m bs) e =
      let f = try-some r t.count 0 t.start m bs e in
      record {
        first = p;
        trial = f.at;
        asked = f.inside;
        count = f.counted ∙ omega arith;
        bytes = f.listed;
        differ = subst (λ (xs : List ℕ). result_at r xs ≢ joined_at r xs) (sym f.listed)
            (told-differ (trial_at r t.start f.at) f.differs);
        before = λ i l. told_same (trial_at r t.start i) (f.before i l);
      }

  -- the outcome of an accepted text claims what holds of its routine
  pub judge_claims : (t : Trials) → Claims t r (judge_routine t r)
  unfolding settled
  judge_claims t = subst (Claims t r) (sym (judge_settled t r)) (go (unknown_line r (symbolic r)) refl)
    where
      go : (o : Option ℕ) → unknown_line r (symbolic r) ≡ o → Claims t r (settled t r o (difference r))
      go none e = decided-claims t (line-none r e) (difference r) refl
      go (some line) e = trials_claim t line (line-some r line e) (try r t.count t.start) refl

  -- ---- THEOREM: no other outcome does

  -- a list that differs first is the list that the difference gives
  first-same : {n i : ℕ} {bs : List ℕ} → Differing r n i bs → Some (difference r)
      → bs ≡ first_differing (gf (modulus_of r)) r.variables (difference r)
  first-same {bs = bs} d s =
      first-only (gf (modulus_of r)) (gf_laws (modulus_of_lem r)) r.variables (powers_of r - r.variables) (powers_of r)
      (difference r) bs (room_for F)
      (difference_reduced r F).0 (difference_reduced r F).1 s d.bytes
      (λ z. d.differ (value_agrees bs d.bytes z))
      (λ ys b l. difference-value r F ys b ∙ ap (λ (y : ℕ). y ⊕ joined_at r ys) (d.first ys b l)
      ∙ ⊕_self (joined_at r ys))

  -- a difference that differs somewhere has a term
  some-term : {n i : ℕ} {bs : List ℕ} → Differing r n i bs → Some (difference r)
  some-term {bs = bs} d = go (difference r) refl
    where
      go : (p : Poly) → difference r ≡ p → Some p
      go [] e = absurd (d.differ (none_agrees e bs d.bytes))
      go (t ∷ p) e = tt

  -- equal and differs, equal and unknown, differs and unknown exclude each other
  equal-differs : {i j n : ℕ} {bs : List ℕ} → Equals r i → Differing r n j bs → ⊥
  equal-differs {bs = bs} e d = d.differ (equivalent_agrees r F e.equivalent bs d.bytes)

  decided-unknown : {line : ℕ} → Decided r → FirstPlace r line → ⊥
  decided-unknown d u = d u.at u.given.inside u.given.over

  place_same : {l m : ℕ} → FirstPlace r l → FirstPlace r m → l ≡ m
  place_same h k =
      sym h.lined
      ∙ ap (λ (a : ℕ). (step_at (places_of r) a).line)
      (first_one (most_terms r) (standing r (places_of r)) (places_of r) h.at k.at h.given k.given)
      ∙ k.lined

  -- a trial that differs is none of those that agree
  later : (start k n : ℕ) → result_at r (trial_at r start k) ≢ joined_at r (trial_at r start k)
      → TrialsAgree r start n → n ≤ k
  later start k n d a = go (dec_le n k)
    where
      go : Dec (n ≤ k) → n ≤ k
      go (yes h) = h
      go (no h) = absurd (d (a k (omega arith)))

  differ-at : {t : Trials} {l m : ℕ} {bs : List ℕ} (f : Finds t r l m bs)
      → result_at r (trial_at r t.start f.trial) ≢ joined_at r (trial_at r t.start f.trial)
  differ-at f = subst (λ (xs : List ℕ). result_at r xs ≢ joined_at r xs) f.bytes f.differ

  -- two outcomes that claim what holds of a routine are the same
  pub claims_unique : (t : Trials) (o p : Outcome) → Claims t r o → Claims t r p → o ≡ p
  claims_unique t (refused n l) p h k = absurd h
  claims_unique t (equal i) (refused n l) h k = absurd k
  claims_unique t (equal i) (equal j) h k = ap equal (tally_unique h.idled k.idled)
  claims_unique t (equal i) (differs n j bs) h k = absurd (equal-differs h k)
  claims_unique t (equal i) (unknown l m) h k = absurd (decided-unknown h.counted k.first)
  claims_unique t (equal i) (found l m bs) h k = absurd (decided-unknown h.counted k.first)
  claims_unique t (differs n i bs) (refused m l) h k = absurd k
  claims_unique t (differs n i bs) (equal j) h k = absurd (equal-differs k h)
  claims_unique t (differs n i bs) (differs m j cs) h k =
      let e : n ≡ m = h.termed ∙ sym k.termed in
      let f : i ≡ j = tally_unique h.idled k.idled in
      let g : bs ≡ cs = first-same h (some-term h) ∙ sym (first-same k (some-term k)) in
      cc
  claims_unique t (differs n i bs) (unknown l m) h k = absurd (decided-unknown h.counted k.first)
  claims_unique t (differs n i bs) (found l m cs) h k = absurd (decided-unknown h.counted k.first)
  claims_unique t (unknown l m) (refused n q) h k = absurd k
  claims_unique t (unknown l m) (equal j) h k = absurd (decided-unknown k.counted h.first)
  claims_unique t (unknown l m) (differs n j bs) h k = absurd (decided-unknown k.counted h.first)
  claims_unique t (unknown l m) (unknown q n) h k =
      ap₂ unknown (place_same h.first k.first) (h.all ∙ sym k.all)
  claims_unique t (unknown l m) (found q n bs) h k =
      let c = later t.start k.trial t.count (differ-at k) h.agree in absurd (omega (arith, c, k.asked))
  claims_unique t (found l m bs) (refused n q) h k = absurd k
  claims_unique t (found l m bs) (equal j) h k = absurd (decided-unknown k.counted h.first)
  claims_unique t (found l m bs) (differs n j cs) h k = absurd (decided-unknown k.counted h.first)
  claims_unique t (found l m bs) (unknown q n) h k =
      let c = later t.start h.trial t.count (differ-at h) k.agree in absurd (omega (arith, c, h.asked))
  claims_unique t (found l m bs) (found q n cs) h k =
      let a : l ≡ q = place_same h.first k.first in
      let b = later t.start h.trial k.trial (differ-at h) k.before in
      let d = later t.start k.trial h.trial (differ-at k) h.before in
      let i : h.trial ≡ k.trial = omega (arith, b, d) in
      let j : m ≡ n = h.count ∙ ap suc i ∙ sym k.count in
      let g : bs ≡ cs = h.bytes ∙ ap (trial_at r t.start) i ∙ sym k.bytes in
      cc

-- ---- what follows

-- a list within bounds has no larger sum, and as many bytes
within-sum : (ds bs : List ℕ) → Within ds bs → (sum bs ≤ sum ds) × (length bs ≡ length ds)
within-sum [] [] h = (omega arith, refl)
within-sum [] (b ∷ bs) h = absurd h
within-sum (d ∷ ds) [] h = absurd h
within-sum (d ∷ ds) (b ∷ bs) h = let k = within-sum ds bs h.1 in (omega (arith, h.0, k.0), ap suc k.1)

-- THEOREM: found names bytes, one for each variable
pub finds_bytes : {t : Trials} {r : Routine} {l m : ℕ} {bs : List ℕ} → Finds t r l m bs → ByteList r.variables bs
unfolding trial_at
finds_bytes {t} {r} f =
    subst (ByteList r.variables) (sym f.bytes)
    (trial_bytes_lem r.variables (trials.number_at r.variables t.start f.trial))

-- THEOREM: tried is at most the sum of the highest powers in the difference plus their number
pub tried-bounded : {r : Routine} {n i : ℕ} {bs : List ℕ} → Differing r n i bs
    → tried bs ≤ tried (highest r.variables (difference r))
tried-bounded {r = r} {bs = bs} d =
    let k = within-sum (highest r.variables (difference r)) bs d.bounded in
    omega (arith, k.0, k.1)

-- THEOREM: every routine is decided, or has a first place over the limit
pub decided_or_given_up : (r : Routine) → Decided r ⊎ ((i : ℕ) × GivenUp r i)
decided_or_given_up r = go (unknown_line r (symbolic r)) refl
  where
    go : (o : Option ℕ) → unknown_line r (symbolic r) ≡ o → Decided r ⊎ ((i : ℕ) × GivenUp r i)
    go none e = inl (line-none r e)
    go (some line) e = let u = line-some r line e in inr (u.at, u.given)
