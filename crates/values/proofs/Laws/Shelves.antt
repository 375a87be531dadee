-- One value more on the shelf: the directory stays sound, and the buffer holds one value more.
-- Assumes nothing.
use mathlib.Core.Path.{◌≡◌, refl, sym, ap, ap₂, ◌∙◌, subst}
use Prim.Native.Nat.{ℕ, suc, ◌+◌, ◌*◌, ◌-◌, ◌≤◌, ◌<◌}
use native.Mathlib.Omega.{arith}
use native.Mathlib.Nat.{mul-le-mul_right, add-mul, le_refl}
use native.Mathlib.Numerals.{add-one}
use mathlib.Core.Logic.{◌≢◌}
use native.Mathlib.Decide.{ℕ_discrete}
use mathlib.Core.List.{List, [], ◌∷◌, ◌++◌, map}
use Rattle.std.proofs.lemmas.List.{map-append}
use lib.ListN.{take, set, length-set, length-replicate}
use lib.Seq.{get_or-set_same, get_or-set_other, take-suc-set}
use Rattle.poly.specs.Poly.{Poly}
use Rattle.poly.specs.First.{sum}
use Rattle.buffer.proofs.Lent.Reads.{read_same}
use Rattle.values.specs.declared.shelf.Slot.{Slot}
use Rattle.values.specs.declared.shelf.Shelf.{Shelf}
use Rattle.values.specs.Shelf.{terms_at, slot_at, value_of, stored, bare, shelved, Sound, Laid}
use Rattle.verdict.proofs.Laws.Begins.{tabulate-same}
use Rattle.values.proofs.Laws.Tables.{tabulate-more}

-- ---- the directory

-- the directory of no values is sound
pub bare-sound : Sound bare
unfolding bare
bare-sound = record {
  room = omega arith;
  slots = length-replicate {A = Slot} 256 (record { start = 0; size = 0 });
  below = λ i h. absurd (omega arith);
  topped = refl;
}

sum_snoc : (xs : List ℕ) (k : ℕ) → sum (xs ++ k ∷ []) ≡ sum xs + k
sum_snoc [] k = omega arith
sum_snoc (x ∷ xs) k = omega (arith, sum_snoc xs k)

module _ (d : Shelf) (k : ℕ) (o : Sound d) (h : d.count < 256) where
  -- the place of the new value
  abbrev own : Slot
  own = record { start = d.top; size = k }

  slot-new : slot_at (shelved d k) d.count ≡ own
  unfolding shelved
  slot-new = get_or-set_same d.slots d.count own _ (omega (arith, o.slots))

  slot-old : (i : ℕ) → i ≢ d.count → slot_at (shelved d k) i ≡ slot_at d i
  unfolding shelved
  slot-old i n = get_or-set_other d.slots d.count i own _ n

  below_by : (i : ℕ) → i < d.count + 1 → Dec (i ≡ d.count)
      → (slot_at (shelved d k) i).start + (slot_at (shelved d k) i).size ≤ d.top + k
  below_by i l (yes e) =
      let u : slot_at (shelved d k) i ≡ own = ap (slot_at (shelved d k)) e ∙ slot-new in
      subst (λ (s : Slot). s.start + s.size ≤ d.top + k) (sym u) (le_refl (d.top + k))
  below_by i l (no n) =
      subst (λ (s : Slot). s.start + s.size ≤ d.top + k) (sym (slot-old i n)) (omega (arith, o.below i (omega arith)))

  -- with one value more it stays sound
  pub shelved-sound : Sound (shelved d k)
  unfolding shelved
  shelved-sound = record {
    room = omega arith;
    slots = length-set d.slots d.count own ∙ o.slots;
    below = λ i l. below_by i l (ℕ_discrete i d.count);
    topped =
        let size : Slot → ℕ = λ s. s.size in
        let e : take (d.count + 1) (set d.slots d.count own) ≡ take d.count d.slots ++ own ∷ [] =
        ap (λ (j : ℕ). take j (set d.slots d.count own)) (add-one d.count)
        ∙ take-suc-set d.slots d.count own (omega (arith, o.slots)) in
        sym (ap (λ (l : List Slot). sum (map size l)) e
        ∙ ap sum (map-append size (take d.count d.slots) (own ∷ []))
        ∙ sum_snoc (map size (take d.count d.slots)) k ∙ ap (λ (t : ℕ). t + k) (sym o.topped));
  }

  -- ---- the values

  module _ (w : ℕ) (b b' : List ℕ) (p : Poly) (pos : 0 < w) (f : Laid w b b' d.top k p) where
    old : (i : ℕ) → i < d.count → value_of w b' (shelved d k) i ≡ value_of w b d i
    unfolding value_of
    old i l =
        let n : i ≢ d.count = λ e. absurd (omega arith) in
        let s = (slot_at d i).start in
        let z = (slot_at d i).size in
        let e : suc (w - 1) ≡ w = omega arith in
        let u : s * w + z * w ≤ d.top * w = subst (λ (x : ℕ). x ≤ d.top * w) (add-mul s z w)
        (mul-le-mul_right w (o.below i l)) in
        ap (λ (x : Slot). terms_at w b' x.start x.size) (slot-old i n)
        ∙ read_same (w - 1) b' b (s * w) z f.size (λ j g q. f.low j (omega (arith, rw e at q)))

    new : value_of w b' (shelved d k) d.count ≡ p
    unfolding value_of
    new = ap (λ (x : Slot). terms_at w b' x.start x.size) slot-new ∙ f.terms

    -- the buffer holds one value more
    pub stored_more : stored w b' (shelved d k) ≡ stored w b d ++ p ∷ []
    unfolding stored shelved
    stored_more =
        tabulate-more d.count (value_of w b' (shelved d k))
        ∙ ap₂ (λ (l : List Poly) (v : Poly). l ++ v ∷ [])
        (tabulate-same d.count (value_of w b' (shelved d k)) (value_of w b d) old) new
