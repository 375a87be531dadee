-- A byte put in for variable i, one term at a time: the groups of terms that become one, and the row that a group is
-- written to. Assumes nothing.
use mathlib.Core.Path.{◌≡◌, refl, sym, ap, ap₂, ◌∙◌}
use mathlib.Core.Bool.{true, false, true≢false}
use mathlib.Core.List.{List, [], ◌∷◌}
use Prim.Native.Nat.{ℕ, zero, suc, ◌+◌, ◌-◌, ◌≤◌, ◌<◌, compare, Ordering}
use Prim.Native.Nat.compare
use native.Mathlib.Omega.{arith}
use native.Mathlib.Nat.{le_of_suc-le-suc}
use Rattle.std.specs.Str.{bytes_eq}
use Rattle.std.proofs.lemmas.List.{drop-take}
use Rattle.std.proofs.lemmas.Slice.Eq.{bytes_eq-Decides}
use lib.ListN.{length, get_or, take, drop, set}
use lib.Seq.{drop-drop}
use Rattle.field.specs.Field.{power, times}
use Rattle.field.specs.Xor.{◌⊕◌}
use Rattle.field.specs.Laws.{Ops, gf}
use Rattle.field.proofs.Laws.Xor.{zero-⊕}
use Rattle.poly.specs.Poly.{term, Poly, or_else, order, keep}
use Rattle.poly.specs.First.{put_slot_raw}
use Rattle.poly.specs.Canon.{Powers}
use Rattle.poly.specs.Pass.{gather_at, gather}
use Rattle.buffer.specs.Buffer.{read_terms}
use Rattle.search.specs.Put.{Led, carry, same_next}
use Rattle.poly.proofs.Laws.Order.{order_same, order_self, or_else_eq}

-- ---- the powers behind variable i

-- the powers behind variable i, as the part of the buffer that is compared
pub part-behind : (b : List ℕ) (at w i end : ℕ) → suc i < w → end ≡ at + w
    → take (end - (at + 2 + i)) (drop (at + 2 + i) b) ≡ drop (suc i) (take (w - 1) (drop (suc at) b))
part-behind b at w i end h q =
    let e : end - (at + 2 + i) ≡ w - 1 - suc i = omega arith in
    let f : at + 2 + i ≡ suc at + suc i = omega arith in
    let g : suc i + (w - 1 - suc i) ≡ w - 1 = omega arith in
    ap₂ (λ (x y : ℕ). take x (drop y b)) e f
    ∙ ap (take (w - 1 - suc i)) (sym (drop-drop (suc i) (suc at) b))
    ∙ sym (drop-take (suc i) (w - 1 - suc i) (drop (suc at) b))
    ∙ ap (λ (x : ℕ). drop (suc i) (take x (drop (suc at) b))) g

-- the comparison tells whether the next term is of the same group
pub compared-next : (i w : ℕ) (b : List ℕ) (at k : ℕ) → suc i < w → 1 < k
    → bytes_eq (take (at + w - (at + 2 + i)) (drop (at + 2 + i) b))
    (take (at + w + w - (at + w + 2 + i)) (drop (at + w + 2 + i) b))
    ≡ same_next i (read_terms (w - 1) b at k)
compared-next i w b at k h l =
    let q : k ≡ suc (suc (k - 2)) = omega arith in
    let s : at + w ≡ at + suc (w - 1) = omega arith in
    ap₂ bytes_eq (part-behind b at w i (at + w) h refl)
    (part-behind b (at + w) w i (at + w + w) h refl ∙ ap (λ (x : ℕ). drop (suc i) (take (w - 1) (drop (suc x) b))) s)
    ∙ sym (ap (λ (x : ℕ). same_next i (read_terms (w - 1) b at x)) q)

-- ---- terms whose first i powers are zero: with variable i at zero too, the powers behind decide

-- where the first i powers are zero, with variable i at zero too, the powers behind decide
pub order-led : (i : ℕ) (e f : List ℕ) → i < length e → i < length f → Led i e → Led i f
    → order (set e i 0) (set f i 0) ≡ order (drop (suc i) e) (drop (suc i) f)
order-led i [] f h k p q = absurd (omega arith)
order-led i (a ∷ e) [] h k p q = absurd (omega arith)
order-led zero (a ∷ e) (b ∷ f) h k p q = ap (or_else (order e f)) compare.zero-zero ∙ or_else_eq (order e f)
order-led (suc i) (a ∷ e) (b ∷ f) h k p q =
    ap₂ (λ (x y : ℕ). or_else (order (set e i 0) (set f i 0)) (compare x y)) (p 0 (omega arith)) (q 0 (omega arith))
    ∙ ap (or_else (order (set e i 0) (set f i 0))) compare.zero-zero
    ∙ or_else_eq (order (set e i 0) (set f i 0))
    ∙ order-led i e f (le_of_suc-le-suc h) (le_of_suc-le-suc k) (λ x l. p (suc x) (omega arith))
    (λ x l. q (suc x) (omega arith))

-- where powers further down come behind, all do
pub decided_gt : (k : ℕ) (e f : List ℕ) → k ≤ length e → k ≤ length f → order (drop k e) (drop k f) ≡ Ordering.gt
    → order e f ≡ Ordering.gt
decided_gt zero e f h l q = q
decided_gt (suc k) [] f h l q = absurd (omega arith)
decided_gt (suc k) (a ∷ e) [] h l q = absurd (omega arith)
decided_gt (suc k) (a ∷ e) (b ∷ f) h l q =
    ap (λ (x : Ordering). or_else x (compare a b))
    (decided_gt k e f (le_of_suc-le-suc h) (le_of_suc-le-suc l) q)

-- ---- one term of the pass, as lists

module _ (m i a c : ℕ) (d : ℕ) (e : List ℕ) where
  -- the field
  abbrev F : Ops
  F = gf m

  -- the sum with the value of this term
  abbrev pub gathered : ℕ
  gathered = c ⊕ times m d (power (times m) a (get_or e i 0))

  -- the group goes on
  pub carry_on : (q : Poly) → Led i e → i < length e → Powers (λ f. Led i f × (i < length f)) q
      → same_next i (term d e ∷ q) ≡ true
      → carry F gathered (put_slot_raw F i a q) ≡ carry F c (put_slot_raw F i a (term d e ∷ q))
  carry_on [] h l p s = let z : ◌≡◌ {A = ℕ} 0 1 = cc in absurd (omega arith)
  carry_on (term d' f ∷ q) h l p s =
      let o : order (set e i 0) (set f i 0) ≡ Ordering.eq =
      order-led i e f l p.0.1 h p.0.0
      ∙ ap (order (drop (suc i) e)) (sym ((bytes_eq-Decides (drop (suc i) e) (drop (suc i) f)).0 s))
      ∙ order_self (drop (suc i) e) in
      let v : ℕ = times m d' (power (times m) a (get_or f i 0)) in
      let r : Poly = put_slot_raw F i a q in
      ap (λ (x : List ℕ). gather F (gathered ⊕ v) x r) (sym (order_same (set e i 0) (set f i 0) o))
      ∙ sym (ap (λ (x : Ordering). gather_at F x gathered (set e i 0) (gather F (gathered ⊕ v) (set e i 0) r)
      (gather F v (set f i 0) r)) o)

  -- the group ends
  pub carry_end : (q : Poly) → Led i e → i < length e → Powers (λ f. Led i f × (i < length f)) q
      → same_next i (term d e ∷ q) ≡ false
      → keep gathered (set e i 0) (carry F 0 (put_slot_raw F i a q)) ≡ carry F c (put_slot_raw F i a (term d e ∷ q))
  carry_end [] h l p s = refl
  carry_end (term d' f ∷ q) h l p s =
      let v : ℕ = times m d' (power (times m) a (get_or f i 0)) in
      let r : Poly = put_slot_raw F i a q in
      ap (λ (x : ℕ). keep gathered (set e i 0) (gather F x (set f i 0) r)) (zero-⊕ v)
      ∙ other (order (set e i 0) (set f i 0))
      (λ o. true≢false (sym ((bytes_eq-Decides (drop (suc i) e) (drop (suc i) f)).1
      (order_same (drop (suc i) e) (drop (suc i) f) (sym (order-led i e f l p.0.1 h p.0.0) ∙ o))) ∙ s))
    where
      other : (o : Ordering) → (o ≡ Ordering.eq → ⊥)
          → keep gathered (set e i 0) (gather F (times m d' (power (times m) a (get_or f i 0))) (set f i 0)
          (put_slot_raw F i a q))
          ≡ gather_at F o gathered (set e i 0)
          (gather F (gathered ⊕ times m d' (power (times m) a (get_or f i 0))) (set e i 0) (put_slot_raw F i a q))
          (gather F (times m d' (power (times m) a (get_or f i 0))) (set f i 0) (put_slot_raw F i a q))
      other Ordering.lt n = refl
      other Ordering.eq n = absurd (n refl)
      other Ordering.gt n = refl

-- ---- a group's row
