-- The front part of a list that is in use, and what one store or one step adds to it.
-- Assumes nothing.
use Rattle.std.proofs.Common.{◌≡◌, ℕ, zero, suc, ◌+◌, ◌-◌, ◌*◌, ◌<◌, List, [], ◌∷◌, ◌++◌, length, get_or, take, drop, set, sym, refl, ◌∙◌, suc-mul, add-one, arith, drop-cons, get_or-take, take-suc-set}

-- ---- rows of w elements

-- the next row begins one row on
pub row_next : (i w : ℕ) → (i + 1) * w ≡ i * w + w
row_next i w = rw (add-one, suc-mul)

-- ---- the front part

module _ {X : Type 0} where
  -- the default does not matter at a place of the list
  pub get_d_any : (l : List X) (i : ℕ) (d e : X) → i < length l → get_or l i d ≡ get_or l i e
  get_d_any [] i d e h = absurd (omega arith)
  get_d_any (x ∷ l) zero d e h = refl
  get_d_any (x ∷ l) (suc i) d e h = get_d_any l i d e (omega arith)

  -- an element of the part in use
  pub get_d_front : (n : ℕ) (l : List X) (i : ℕ) (d e : X) → i < n → i < length l → get_or l i d ≡ get_or (take n l) i e
  get_d_front n l i d e h k = get_d_any l i d e k ∙ sym (get_or-take n l i e h)

  -- one element more behind the part in use
  pub take_store : (l : List X) (i : ℕ) (x : X) → i < length l → take (i + 1) (set l i x) ≡ take i l ++ x ∷ []
  take_store l i x h = rw add-one (take-suc-set l i x h)

  -- the first of the elements from..to
  pub part-first : (l : List X) (i to : ℕ) (d : X) → i < to → i < length l
      → take (to - i) (drop i l) ≡ get_or l i d ∷ take (to - (i + 1)) (drop (i + 1) l)
  part-first l i to d h k =
      let e : to - i ≡ suc (to - (i + 1)) = omega arith in
      rw (e, drop-cons l i d k, add-one)

  -- the last elements, one more of them
  pub drop-first : (l : List X) (i : ℕ) (d : X) → i < length l → drop i l ≡ get_or l i d ∷ drop (i + 1) l
  drop-first l i d h = rw (add-one, drop-cons l i d h)
