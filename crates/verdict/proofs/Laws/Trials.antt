-- Trials by number: none differs, or the first that does; a trial has a byte for each variable.
-- Assumes nothing.
use Rattle.std.proofs.Common.{◌≡◌, ℕ, zero, suc, ◌+◌, ◌^◌, ◌<◌, Bool, true, false, cond, List, sym, refl, ap, ◌∙◌, arith}
use Rattle.poly.specs.Canon.{ByteList}
use Rattle.rules.specs.Read.{Routine}
use Rattle.verdict.specs.Trials.{stepped, top_byte, trial_bytes, number_after, number_at, nothing, bytes, agrees_on}
use Rattle.verdict.specs.Trials.{try_from}

-- ---- the trials by number

-- the number before trial i of those after the first
pub number_shift : (v n i : ℕ) → number_at v (number_after v n) i ≡ number_at v n (suc i)
unfolding number_at
number_shift v n zero = refl
number_shift v n (suc i) = ap (number_after v) (number_shift v n i)

-- trial i from a number on
abbrev pub trial_from : Routine → ℕ → ℕ → List ℕ
trial_from r n i = trial_bytes r.variables (number_at r.variables n i)

-- the first trials from a number on agree
abbrev pub AgreeFrom : Routine → ℕ → ℕ → Type 0
AgreeFrom r n k = (i : ℕ) → i < k → agrees_on r (trial_from r n i) ≡ true

agree-more : (r : Routine) (n k : ℕ) → agrees_on r (trial_bytes r.variables n) ≡ true
    → AgreeFrom r (number_after r.variables n) k → AgreeFrom r n (suc k)
unfolding number_at
agree-more r n k h f zero l = h
agree-more r n k h f (suc i) l =
    ap (λ (m : ℕ). agrees_on r (trial_bytes r.variables m)) (sym (number_shift r.variables n i))
    ∙ f i (omega arith)

-- no trial differs
pub try-none : (r : Routine) (k made n : ℕ) → try_from r k made n ≡ nothing → AgreeFrom r n k
unfolding try_from
try-none r zero made n e = λ i l. absurd (omega arith)
try-none r (suc k) made n e =
    go (agrees_on r (trial_bytes r.variables n)) refl e (try-none r k (suc made) (number_after r.variables n))
  where
    go : (b : Bool) → agrees_on r (trial_bytes r.variables n) ≡ b
        → cond b (try_from r k (suc made) (number_after r.variables n))
        (bytes (suc made) (trial_bytes r.variables n)) ≡ nothing
        → (try_from r k (suc made) (number_after r.variables n) ≡ nothing
        → AgreeFrom r (number_after r.variables n) k) → AgreeFrom r n (suc k)
    go true h e f = agree-more r n k h (f e)
    go false h e f = let z : ◌≡◌ {A = ℕ} 0 1 = cc in absurd (omega arith)

-- trial `at` is the first that differs
pub record FirstAt (r : Routine) (k made n m : ℕ) (bs : List ℕ) : Type 0 where
  pub at : ℕ
  pub inside : at < k
  pub counted : m ≡ suc (made + at)
  pub listed : bs ≡ trial_from r n at
  pub differs : agrees_on r (trial_from r n at) ≡ false
  pub before : AgreeFrom r n at

-- a trial differs: it is the first that does
pub try-some : (r : Routine) (k made n m : ℕ) (bs : List ℕ) → try_from r k made n ≡ bytes m bs
    → FirstAt r k made n m bs
unfolding try_from number_at
try-some r zero made n m bs e = let z : ◌≡◌ {A = ℕ} 0 1 = cc in absurd (omega arith)
try-some r (suc k) made n m bs e =
    go (agrees_on r (trial_bytes r.variables n)) refl e
    (try-some r k (suc made) (number_after r.variables n) m bs)
  where
    go : (b : Bool) → agrees_on r (trial_bytes r.variables n) ≡ b
        → cond b (try_from r k (suc made) (number_after r.variables n))
        (bytes (suc made) (trial_bytes r.variables n)) ≡ bytes m bs
        → (try_from r k (suc made) (number_after r.variables n) ≡ bytes m bs
        → FirstAt r k (suc made) (number_after r.variables n) m bs) → FirstAt r (suc k) made n m bs
    go true h e f =
        let g = f e in
        let s = ap (trial_bytes r.variables) (number_shift r.variables n g.at) in
        record {
          at = suc g.at;
          inside = omega (arith, g.inside);
          counted = g.counted ∙ omega arith;
          listed = g.listed ∙ s;
          differs = ap (agrees_on r) (sym s) ∙ g.differs;
          before = agree-more r n g.at h g.before;
        }
    go false h e f =
        let p : suc made ≡ m = cc in
        let q : trial_bytes r.variables n ≡ bs = cc in
        record {
          at = 0;
          inside = omega arith;
          counted = sym p ∙ omega arith;
          listed = sym q;
          differs = h;
          before = λ i l. absurd (omega arith);
        }

-- ---- a trial has a byte for each variable

step-below : (n : ℕ) → stepped n < 2 ^ 32
unfolding stepped
step-below n = omega arith

-- every trial of v variables is v bytes
pub trial_bytes_lem : (v n : ℕ) → ByteList v (trial_bytes v n)
unfolding trial_bytes top_byte
trial_bytes_lem zero n = tt
trial_bytes_lem (suc v) n = (omega (arith, step-below n), trial_bytes_lem v (stepped n))
