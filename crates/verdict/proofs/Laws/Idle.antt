-- An input is indifferent exactly where none of its shares occurs in the reduced result: that has run's values, and a
-- variable on which the values do not depend does not occur. So the number of idle inputs is what the outcome says.
-- Assumes nothing.
use Rattle.std.proofs.Common.{◌≡◌, ℕ, zero, suc, ◌+◌, ◌-◌, ◌*◌, ◌<◌, ◌≤◌, Bool, true, false, cond, ◌⊎◌, ◌↔◌, get_or, set, sym, refl, ap, ◌∙◌, subst, inl, inr, mul-le-mul_right, suc-mul, arith, get_or-set_other}
use native.Mathlib.Decide.{dec_le}
use Rattle.field.specs.Laws.{gf}
use Rattle.field.proofs.Laws.Field.{gf_laws}
use Rattle.poly.specs.Canon.{ByteList}
use Rattle.poly.specs.Occurs.{occurs}
use Rattle.poly.proofs.Laws.Put.{set-bytes}
use Rattle.poly.proofs.Laws.Occurs.{some-none, none-some, eval-same, same_without}
use Rattle.rules.specs.Read.{Routine}
use Rattle.rules.specs.Formed.{Formed}
use Rattle.verdict.specs.Instances.{modulus_of, powers_of, reduced_result}
use Rattle.verdict.specs.Idle.{ShareOf, Indifferent, Tally, none, counted, passed, IdleInputs, matters}
use Rattle.verdict.specs.Idle.{failing, idle}
use Rattle.verdict.proofs.Laws.Value.{modulus_of_lem, room_for, result_value, result_reduced}
use Rattle.verdict.proofs.Laws.Bytes.{bytes-length}

module _ (r : Routine) (F : Formed r) where
  -- a variable that is no share, or one by its number among them
  share_or : (i v : ℕ) → (ShareOf r i v → ⊥) ⊎ ((j : ℕ) × (j < r.shares) × (v ≡ i * r.shares + j))
  share_or i v = low (dec_le (i * r.shares) v)
    where
      high : i * r.shares ≤ v → Dec (i * r.shares + r.shares ≤ v)
          → (ShareOf r i v → ⊥) ⊎ ((j : ℕ) × (j < r.shares) × (v ≡ i * r.shares + j))
      high l (yes h) = inl (λ s. omega (arith, s.1))
      high l (no h) = inr (v - i * r.shares, omega arith, omega arith)

      low : Dec (i * r.shares ≤ v) → (ShareOf r i v → ⊥) ⊎ ((j : ℕ) × (j < r.shares) × (v ≡ i * r.shares + j))
      low (yes h) = high h (dec_le (i * r.shares + r.shares) v)
      low (no h) = inl (λ s. h s.0)

  -- an input of which no share occurs is indifferent
  matters-not : (i : ℕ) → matters r (reduced_result r) i ≡ false → Indifferent r i
  unfolding matters Indifferent
  matters-not i h xs ys b c same =
      sym (result_value r F xs b)
      ∙ eval-same (gf (modulus_of r)) (reduced_result r) xs ys
      (bytes-length r.variables xs b ∙ sym (bytes-length r.variables ys c)) (λ v. apart v (share_or i v))
      ∙ result_value r F ys c
    where
      apart : (v : ℕ) → (ShareOf r i v → ⊥) ⊎ ((j : ℕ) × (j < r.shares) × (v ≡ i * r.shares + j))
          → (occurs v (reduced_result r) ≡ false) ⊎ (get_or xs v 0 ≡ get_or ys v 0)
      apart v (inl n) = inr (same v n)
      apart v (inr s) =
          inl (ap (λ (x : ℕ). occurs x (reduced_result r)) s.2
          ∙ some-none (i * r.shares) r.shares (reduced_result r) h s.0 s.1)

  -- no share of an indifferent input occurs
  indifferent_not : (i : ℕ) → i < r.inputs → Indifferent r i → matters r (reduced_result r) i ≡ false
  unfolding matters Indifferent
  indifferent_not i l h = none-some (i * r.shares) r.shares (reduced_result r) (λ j k.
      let v = r.variables in
      let u : ℕ = i * r.shares + j in
      let inside : u < v = omega (arith, mul-le-mul_right r.shares l, suc-mul i r.shares, F.fits) in
      same_without (gf (modulus_of r)) (gf_laws (modulus_of_lem r)) v (powers_of r - v) (powers_of r) u (reduced_result r)
      (room_for F) inside (result_reduced r F).0 (result_reduced r F).1 (λ xs b.
      let c : ByteList v (set xs u 0) = set-bytes v u 0 xs (omega arith) b in
      result_value r F (set xs u 0) c
      ∙ h (set xs u 0) xs c b (λ t n. get_or-set_other xs u t 0 0 (λ e. n (omega arith, omega arith)))
      ∙ sym (result_value r F xs b)))

  -- THEOREM: an input is indifferent exactly where none of its shares occurs in the reduced result
  pub indifferent_iff : (i : ℕ) → i < r.inputs → Indifferent r i ↔ (matters r (reduced_result r) i ≡ false)
  indifferent_iff i l = (indifferent_not i l, matters-not i)

-- ---- counted

-- a test that fails exactly where P holds counts what has P
tally_of : (P : ℕ → Type 0) (test : ℕ → Bool) (m : ℕ) → ((i : ℕ) → i < m → P i ↔ (test i ≡ false))
    → Tally P m (failing m test)
unfolding failing
tally_of P test zero h = none
tally_of P test (suc m) h = go (test m) refl (tally_of P test m (λ i l. h i (omega arith)))
  where
    go : (b : Bool) → test m ≡ b → Tally P m (failing m test) → Tally P (suc m) (cond b 0 1 + failing m test)
    go true e t =
        let z : failing m test ≡ 0 + failing m test = omega arith in
        subst (Tally P (suc m)) z
        (passed t (λ p. let f = (h m (omega arith)).0 p in let x : ◌≡◌ {A = ℕ} 0 1 = cc in omega arith))
    go false e t =
        let z : suc (failing m test) ≡ 1 + failing m test = omega arith in
        subst (Tally P (suc m)) z (counted t ((h m (omega arith)).1 e))

-- there is one count
pub tally_unique : {P : ℕ → Type 0} {m n k : ℕ} → Tally P m n → Tally P m k → n ≡ k
tally_unique none none = refl
tally_unique (counted t p) (counted s q) = ap suc (tally_unique t s)
tally_unique (counted t p) (passed s q) = absurd (q p)
tally_unique (passed t p) (counted s q) = absurd (p q)
tally_unique (passed t p) (passed s q) = tally_unique t s

-- what has P is what has Q
pub tally_map : {P Q : ℕ → Type 0} {m n : ℕ} → ((i : ℕ) → i < m → P i ↔ Q i) → Tally P m n → Tally Q m n
tally_map h none = none
tally_map {m = suc m} h (counted t p) = counted (tally_map (λ i l. h i (omega arith)) t) ((h m (omega arith)).0 p)
tally_map {m = suc m} h (passed t p) =
    passed (tally_map (λ i l. h i (omega arith)) t) (λ q. p ((h m (omega arith)).1 q))

-- THEOREM: so many inputs are idle as have no share that occurs in the reduced result
pub idle-counts : (r : Routine) → Formed r → IdleInputs r (idle r)
unfolding idle
idle-counts r F = tally_of (Indifferent r) (matters r (reduced_result r)) r.inputs (indifferent_iff r F)
