-- The bytes of a trial taken one by one, and trials made one by one.
-- Assumes nothing.
use Rattle.std.proofs.Common.{◌≡◌, ℕ, suc, ◌+◌, ◌-◌, ◌<◌, ◌≤◌, Bool, true, false, None, Some, List, ◌++◌, length, take, set, sym, ap, ◌∙◌, append_assoc, append-nil, arith}
use Rattle.rules.specs.Read.{Routine}
use Rattle.verdict.specs.Trials.{stepped, top_byte, trial_bytes, number_after, Found, agrees_on}
use Rattle.verdict.specs.Trials.{try_from, found_of}
use Rattle.verdict.proofs.Laws.Parts.{take_store}

-- ---- the bytes of one trial

-- one more
pub draw_more : (v i n x m : ℕ) (bs whole : List ℕ) → i < v → i < length bs → m ≡ stepped n → x ≡ top_byte m
    → whole ≡ take i bs ++ trial_bytes (v - i) n
    → whole ≡ take (i + 1) (set bs i x) ++ trial_bytes (v - (i + 1)) m
unfolding trial_bytes
draw_more v i n x m bs whole h l p q e =
    let k : v - i ≡ suc (v - (i + 1)) = omega arith in
    e ∙ rw (k, take_store bs i x l, append_assoc, q, p)

pub number_more : (v i n m whole : ℕ) → i < v → m ≡ stepped n → whole ≡ number_after (v - i) n
    → whole ≡ number_after (v - (i + 1)) m
unfolding number_after
number_more v i n m whole h p e =
    let k : v - i ≡ suc (v - (i + 1)) = omega arith in
    e ∙ rw (k, p)

-- all of them
pub draw_all : (v i n : ℕ) (bs whole : List ℕ) → i ≡ v → whole ≡ take i bs ++ trial_bytes (v - i) n → take v bs ≡ whole
unfolding trial_bytes
draw_all v i n bs whole h e =
    let k : v - i ≡ 0 = omega arith in
    sym (e ∙ rw (k, h, append-nil))

pub number_all : (v i n whole : ℕ) → i ≡ v → whole ≡ number_after (v - i) n → n ≡ whole
unfolding number_after
number_all v i n whole h e = let k : v - i ≡ 0 = omega arith in sym (e ∙ rw k)

-- what was told of the front part holds of the trial
pub trial-told : (r : Routine) (n : ℕ) (bs : List ℕ) {b t : Bool}
    → take r.variables bs ≡ trial_bytes r.variables n
    → b ≡ agrees_on r (take r.variables bs) → b ≡ t → agrees_on r (trial_bytes r.variables n) ≡ t
trial-told r n bs h p q = ap (agrees_on r) (sym h) ∙ sym p ∙ q

-- ---- trials made one by one

module _ (r : Routine) (whole : Found) (k made n : ℕ) where
  -- the next trial agrees
  pub try-pass : (m : ℕ) → made < k → agrees_on r (trial_bytes r.variables n) ≡ true
      → m ≡ number_after r.variables n → whole ≡ try_from r (k - made) made n
      → whole ≡ try_from r (k - (made + 1)) (made + 1) m
  unfolding try_from
  try-pass m h a p e =
      let l : k - made ≡ suc (k - (made + 1)) = omega arith in
      let s : suc made ≡ made + 1 = omega arith in
      e ∙ rw (l, a, s, p)

  -- it differs
  pub try-stop : (bs : List ℕ) → made < k → agrees_on r (trial_bytes r.variables n) ≡ false
      → take r.variables bs ≡ trial_bytes r.variables n → whole ≡ try_from r (k - made) made n
      → found_of r.variables (Some (record { made = made + 1; bytes = bs })) ≡ whole
  unfolding try_from found_of
  try-stop bs h a p e =
      let l : k - made ≡ suc (k - (made + 1)) = omega arith in
      let s : suc made ≡ made + 1 = omega arith in
      sym (e ∙ rw (l, a, s, p))

  -- none is left
  pub try-done : k ≤ made → whole ≡ try_from r (k - made) made n → found_of r.variables None ≡ whole
  unfolding try_from found_of
  try-done h e = let l : k - made ≡ 0 = omega arith in sym (e ∙ rw l)
