-- Tables filled place by place.
-- Assumes nothing.
use mathlib.Core.Path.{◌≡◌, refl, sym, ap, ap₂, ◌∙◌}
use Prim.Native.Nat.{ℕ, zero, suc, ◌+◌, ◌<◌}
use native.Mathlib.Omega.{arith}
use native.Mathlib.Decide.{ℕ_discrete, dec_lt}
use mathlib.Core.List.{List, [], ◌∷◌}
use lib.ListN.{length, take, get_or, set, replicate, length-take, length-set, get_or-replicate}
use lib.ListN.{get_or-eq_default}
use lib.Seq.{get_or-set_same, get_or-set_other, get_or-take}
use Rattle.field.specs.Field.{times, squared}
use Rattle.field.specs.Maps.{list_of, dual_of, coefficient, coefficients, coefficients_of}
use Rattle.field.proofs.Laws.Linear.{at_zero}
use Rattle.field.proofs.Laws.Product.{times-left}
use Rattle.field.proofs.Laws.Sums.{sum_cong, sum-zero}
use Rattle.rules.specs.declared.types.AffineMap.{AffineMap}
use Rattle.verdict.specs.Meaning.{map_at}
use Rattle.verdict.proofs.Laws.Parts.{get_d_front}
use Rattle.survey.specs.Table.{Listed, Constants}
use Rattle.values.specs.Raw.{Tabled}

-- after a store each place has its value, if the other places had theirs
set_at : {X : Type 0} (l : List X) (g : ℕ → X) (f : ℕ) (v d : X) → f < length l → v ≡ g f
    → (i : ℕ) → ((i ≡ f → ⊥) → get_or l i d ≡ g i) → get_or (set l f v) i d ≡ g i
set_at l g f v d k e i h = go (ℕ_discrete i f)
  where
    go : Dec (i ≡ f) → get_or (set l f v) i d ≡ g i
    go (yes q) = ap (λ (x : ℕ). get_or (set l f v) x d) q ∙ get_or-set_same l f v d k ∙ e ∙ ap g (sym q)
    go (no q) = get_or-set_other l f i v d q ∙ h q

-- ---- the coefficients of a map that is 0 everywhere

zeros-list : (n : ℕ) (g : ℕ → ℕ) → ((j : ℕ) → g j ≡ 0) → list_of n g ≡ replicate n 0
unfolding list_of
zeros-list zero g h = refl
zeros-list (suc n) g h = ap₂ ◌∷◌ (h 0) (zeros-list n (λ i. g (suc i)) (λ j. h (suc j)))

-- 0 times a byte, over any modulus
zero-times : (m b : ℕ) → times m 0 b ≡ 0
zero-times m b = at_zero (λ a. times m a b) (times-left m b).spread

-- they are 0, over any modulus
zero-coefficients : (m : ℕ) → coefficients_of m (replicate 8 0) ≡ replicate 8 0
unfolding coefficients_of coefficients coefficient
zero-coefficients m =
    zeros-list 8 (coefficient (times m) (dual_of m) (replicate 8 0))
    (λ j. sum_cong 8 (λ i l.
    ap (λ (x : ℕ). times m x (squared (times m) j (get_or (dual_of m) i 0))) (get_or-replicate 8 i 0 0 l)
    ∙ zero-times m (squared (times m) j (get_or (dual_of m) i 0))) ∙ sum-zero 8)

-- ---- the tables of the first f maps

-- the next map changes no other place
map-kept : (maps : List AffineMap) (f i : ℕ) → (i ≡ f → ⊥) → map_at (take f maps) i ≡ map_at (take (f + 1) maps) i
unfolding map_at
map-kept maps f i q = go (dec_lt i f)
  where
    go : Dec (i < f) → map_at (take f maps) i ≡ map_at (take (f + 1) maps) i
    go (yes h) = get_or-take f maps i _ h ∙ sym (get_or-take (f + 1) maps i _ (omega arith))
    go (no h) =
        get_or-eq_default (take f maps) _ (rw length-take (omega arith))
        ∙ sym (get_or-eq_default (take (f + 1) maps) _ (rw length-take (omega arith)))

-- no map is listed yet
pub listed-none : (m : ℕ) (maps : List AffineMap) → Listed m (take 0 maps) (replicate 8 (replicate 8 0)) 8
unfolding map_at
listed-none m maps = record {
  size = refl;
  rows = λ f h. get_or-replicate 8 f (replicate 8 0) [] h ∙ sym (zero-coefficients m);
}

-- one map's coefficients more
pub listed_more : (m : ℕ) (maps : List AffineMap) (lists : List (List ℕ)) (f : ℕ) (row : List ℕ) → f < 8
    → row ≡ coefficients_of m (map_at (take (f + 1) maps) f).columns
    → Listed m (take f maps) lists 8 → Listed m (take (f + 1) maps) (set lists f row) 8
listed_more m maps lists f row h e l = record {
  size = length-set lists f row ∙ l.size;
  rows = λ i n. set_at lists (λ j. coefficients_of m (map_at (take (f + 1) maps) j).columns) f row []
      (omega (arith, l.size)) e i
      (λ q. l.rows i n ∙ ap (λ (x : AffineMap). coefficients_of m x.columns) (map-kept maps f i q));
}

-- no constant is listed yet
pub constants_none : (maps : List AffineMap) → Constants (take 0 maps) (replicate 8 0) 8
unfolding map_at
constants_none maps = record { size = refl; entries = λ f h. get_or-replicate 8 f 0 0 h }

-- one map's constant more
pub constants_more : (maps : List AffineMap) (constants : List ℕ) (f c : ℕ) → f < 8
    → c ≡ (map_at (take (f + 1) maps) f).constant
    → Constants (take f maps) constants 8 → Constants (take (f + 1) maps) (set constants f c) 8
constants_more maps constants f c h e l = record {
  size = length-set constants f c ∙ l.size;
  entries = λ i n. set_at constants (λ j. (map_at (take (f + 1) maps) j).constant) f c 0 (omega (arith, l.size)) e i
      (λ q. l.entries i n ∙ ap (λ (x : AffineMap). x.constant) (map-kept maps f i q));
}

-- the next map is the one that is read
pub map_next : (maps : List AffineMap) (f : ℕ) (d : AffineMap) → f < length maps
    → get_or maps f d ≡ map_at (take (f + 1) maps) f
unfolding map_at
map_next maps f d h = get_d_front (f + 1) maps f d _ (omega arith) h

-- both tables are what a walk asks
pub tabled : (m : ℕ) (maps : List AffineMap) (lists : List (List ℕ)) (constants : List ℕ) → Listed m maps lists 8
    → Constants maps constants 8
    → Tabled m maps lists constants
tabled m maps lists constants l k = record { coefficients = l.rows; constant = k.entries }
