-- The values that stand in the first work buffer, by its directory. A term has w bytes.
-- Assumes nothing.
use Rattle.std.specs.Prelude.{◌≡◌, ℕ, ◌+◌, ◌*◌, ◌-◌, ◌≤◌, ◌<◌, List, map, length, take, get_or, set, replicate}
use Rattle.poly.specs.Poly.{Poly}
use Rattle.poly.specs.First.{sum}
use Rattle.buffer.specs.Buffer.{read_terms}
use Rattle.verdict.specs.Lists.{tabulate}
use Rattle.values.specs.declared.shelf.Slot.{Slot}
use Rattle.values.specs.declared.shelf.Shelf.{Shelf}

-- the k terms from term `at` on
abbrev pub terms_at : ℕ → List ℕ → ℕ → ℕ → Poly
terms_at w b at k = read_terms (w - 1) b (at * w) k

-- the place of statement i
abbrev pub slot_at : Shelf → ℕ → Slot
slot_at d i = get_or d.slots i (record { start = 0; size = 0 })

-- the value of statement i
unfoldable pub value_of : ℕ → List ℕ → Shelf → ℕ → Poly
value_of w b d i = terms_at w b (slot_at d i).start (slot_at d i).size

-- the values of all statements so far
unfoldable pub stored : ℕ → List ℕ → Shelf → List Poly
stored w b d = tabulate d.count (value_of w b d)

-- no value stands yet
unfoldable pub bare : Shelf
bare = record { slots = replicate 256 (record { start = 0; size = 0 }); count = 0; top = 0 }

-- one value more, of the k terms above all others
unfoldable pub shelved : Shelf → ℕ → Shelf
shelved d k = record {
  slots = set d.slots d.count (record { start = d.top; size = k });
  count = d.count + 1;
  top = d.top + k;
}

-- what holds of the directory alone: each value stands below top, and the sizes add up to it
pub record Sound (d : Shelf) : Type 0 where
  pub room : d.count ≤ 256
  pub slots : length d.slots ≡ 256
  pub below : (i : ℕ) → i < d.count → (slot_at d i).start + (slot_at d i).size ≤ d.top
  pub topped : d.top ≡ sum (map (λ s. s.size) (take d.count d.slots))

-- the buffer b became b': from term `at` on stand the k terms p, and no byte below is touched
pub record Laid (w : ℕ) (b b' : List ℕ) (at k : ℕ) (p : Poly) : Type 0 where
  pub size : length b' ≡ length b
  pub low : (i : ℕ) → i < at * w → get_or b' i 0 ≡ get_or b i 0
  pub terms : terms_at w b' at k ≡ p
