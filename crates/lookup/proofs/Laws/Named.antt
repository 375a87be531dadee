-- The names of a set, by the entries of the code's table; a store elsewhere leaves them as they are, and one behind
-- them gives one name more.
-- Assumes nothing.
use Prim.Native.Nat.{ℕ, zero, suc, ◌+◌, ◌≤◌, ◌<◌}
use native.Mathlib.Omega.{arith}
use native.Mathlib.Numerals.{add-one}
use mathlib.Core.Path.{◌≡◌, refl, sym, ◌∙◌, ap}
use mathlib.Core.List.{List, [], ◌∷◌, ◌++◌, map}
use lib.ListN.{length, take, drop, get_or, length-set, length-map, get_or-map}
use lib.Seq.{get_or-set_same, get_or-set_other, length-take-le, get_or-take, drop-cons}
use Rattle.grammar.specs.declared.line.NameRef.{NameRef}
use Rattle.tokens.specs.Token.{Name}
use Rattle.tokens.specs.Limits.{most_shares}
use Rattle.grammar.specs.declared.outputs.Outputs.{Outputs}
use Rattle.grammar.specs.Recorded.{names_read}
use Rattle.grammar.specs.Line.{name_in}
use Rattle.rules.specs.Limits.{most_entries}
use Rattle.lookup.specs.Names.{nowhere, entry, listed, put}

-- ---- the names that a line has

module _ (s : List ℕ) (o : Outputs) (size : length o.items ≡ most_shares) where
  held : o.count ≤ length o.items
  held = omega (arith, o.few)

  -- as many names as are counted
  pub read_length : length (names_read s o) ≡ o.count
  unfolding names_read
  read_length = length-map (take o.count o.items) (name_in s) ∙ length-take-le o.count o.items held

  -- the name at i
  pub read_at : (i : ℕ) → i < o.count → get_or (names_read s o) i (name_in s nowhere) ≡ name_in s
      (get_or o.items i nowhere)
  unfolding names_read
  read_at i k = get_or-map (name_in s) (take o.count o.items) i nowhere
      ∙ ap (name_in s) (get_or-take o.count o.items i nowhere k)

-- ---- the names of a table

module _ (s : List ℕ) (t : List NameRef) where
  -- as many names as are asked for
  pub listed-length : (from n : ℕ) → length (listed s t from n) ≡ n
  unfolding listed
  listed-length from zero = refl
  listed-length from (suc n) = ap suc (listed-length (from + 1) n)

  -- the entries themselves, where all of them are in the table
  pub listed_part : (from n : ℕ) → from + n ≤ length t → listed s t from n ≡ map (name_in s) (take n (drop from t))
  unfolding listed
  listed_part from zero h = refl
  listed_part from (suc n) h =
      let here : drop from t ≡ entry t from ∷ drop (from + 1) t = rw add-one (drop-cons t from nowhere (omega arith)) in
      ap (λ (ns : List Name). name_in s (entry t from) ∷ ns) (listed_part (from + 1) n (omega arith))
      ∙ ap (λ (l : List NameRef). map (name_in s) (take (suc n) l)) (sym here)

  listed-last : (from n : ℕ) → listed s t from (suc n) ≡ listed s t from n ++ name_in s (entry t (from + n)) ∷ []
  unfolding listed
  listed-last from zero =
      let e : from ≡ from + 0 = omega arith in
      ap (λ (j : ℕ). name_in s (entry t j) ∷ []) e
  listed-last from (suc n) =
      let e : from + 1 + n ≡ from + suc n = omega arith in
      ap (λ (ns : List Name). name_in s (entry t from) ∷ ns)
      (listed-last (from + 1) n ∙ ap (λ (j : ℕ). listed s t (from + 1) n ++ name_in s (entry t j) ∷ []) e)

  -- one name more
  pub listed_more : (from n : ℕ) → listed s t from (n + 1) ≡ listed s t from n ++ name_in s (entry t (from + n)) ∷ []
  listed_more from n = rw add-one (listed-last from n)

module _ (t : List NameRef) (at : ℕ) (x : NameRef) where
  -- a store keeps the size
  pub put-length : length (put t at x) ≡ length t
  put-length = length-set t at x

  -- other names stay as they are
  pub listed-apart : (s : List ℕ) (from n : ℕ) → ((i : ℕ) → from ≤ i → i < from + n → i ≡ at → ⊥)
      → listed s (put t at x) from n ≡ listed s t from n
  unfolding listed
  listed-apart s from zero h = refl
  listed-apart s from (suc n) h =
      let head = get_or-set_other t at from x nowhere (h from (omega arith) (omega arith)) in
      let tail = listed-apart s (from + 1) n (λ i a b. h i (omega arith) (omega arith)) in
      λ j. name_in s (head j) ∷ tail j

-- a name stored behind the others is one name more
pub listed_next : (s : List ℕ) (t : List NameRef) (x : NameRef) (from n : ℕ) → from + n < most_entries
    → length t ≡ most_entries
    → listed s (put t (from + n) x) from (n + 1) ≡ listed s t from n ++ name_in s x ∷ []
listed_next s t x from n h l =
    let new = put t (from + n) x in
    let old = listed-apart t (from + n) x s from n (λ i a b e. omega arith) in
    let last = get_or-set_same t (from + n) x nowhere (omega arith) in
    listed_more s new from n ∙ (λ j. old j ++ name_in s (last j) ∷ [])
