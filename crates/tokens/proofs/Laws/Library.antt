-- The library's words for what a chain of an iterator's methods gives, in the words of this crate. Assumes nothing.
use Prim.Native.Nat.{ℕ, ◌+◌, ◌-◌, ◌<◌, ◌≤◌}
use mathlib.Core.Path.{◌≡◌, refl, ap, ◌∙◌}
use mathlib.Core.Bool.{Bool, true, false, cond, not, ◌&&◌}
use mathlib.Core.List.{List, [], ◌∷◌}
use native.Mathlib.Omega.{arith}
use lib.Dec.{eqb, ltb}
use lib.ListN.{length, take, drop, length-drop}
use lib.Seq.{take_all}
use Rattle.std.specs.Prelude.{Option, Some, None, unwrap_or}
use Rattle.std.specs.List.{list_all, position_or_len, filter}
use Rattle.std.specs.Cmp.Lexicographic.{pointwise}
use Rattle.tokens.specs.Ascii.{all, same_bytes}
use Rattle.tokens.specs.Split.{until, later, pieces, cut}
use Rattle.tokens.proofs.Laws.Scan.{until_le}
use Rattle.tokens.proofs.Laws.Pieces.{some-piece}

module _ {A : Type 0} (p : A → Bool) where
  -- the place of the first that passes, or the end
  until-place : (s : List A) → position_or_len p s ≡ until p s
  unfolding until later
  until-place [] = refl
  until-place (x ∷ s) = go (p x) (until-place s)
    where
      go : (b : Bool) {n m : ℕ} → n ≡ m → cond (not b) (1 + n) 0 ≡ later b m
      go true e = refl
      go false e = omega arith

  -- the place of the first that passes, or the end
  pub until-position : (s : List A) {r : Option ℕ}
      → r ≡ cond (ltb (position_or_len p s) (length s)) (Some (position_or_len p s)) None
      → unwrap_or r (length s) ≡ until p s
  until-position s e = ap (λ (o : Option ℕ). unwrap_or o (length s)) e ∙ rw (until-place s) (go _ _ (until_le p s))
    where
      go : (n l : ℕ) → n ≤ l → unwrap_or (cond (ltb n l) (Some n) None) l ≡ n
      go n l h = grind arith

  -- the same behind the first elements, which are lent as a part of the list
  pub until-after : (at : ℕ) (s : List A) {r : Option ℕ} → (let t = take (length s - at) (drop at s) in
      r ≡ cond (ltb (position_or_len p t) (length t)) (Some (position_or_len p t)) None)
      → unwrap_or r (length (take (length s - at) (drop at s))) ≡ until p (drop at s)
  until-after at s {r} e =
      let t = take (length s - at) (drop at s) in
      let whole : t ≡ drop at s = take_all (length s - at) (drop at s) (omega (arith, length-drop at s)) in
      until-position t e ∙ ap (until p) whole

  -- every element passes
  pub all-passed : (s : List A) → list_all p s ≡ all p s
  unfolding all
  all-passed [] = refl
  all-passed (x ∷ s) = ap (λ (b : Bool). p x && b) (all-passed s)

-- the same bytes
pub pointwise-same : (a b : List ℕ) → pointwise eqb a b ≡ same_bytes a b
unfolding same_bytes
pointwise-same [] [] = refl
pointwise-same [] (y ∷ b) = refl
pointwise-same (x ∷ a) [] = refl
pointwise-same (x ∷ a) (y ∷ b) = ap (λ (q : Bool). eqb x y && q) (pointwise-same a b)

-- one piece more than there are separators
pub counted-pieces : (sep : ℕ) (s : List ℕ) → length (filter (λ b. eqb b sep) s) + 1 ≡ length (pieces sep s)
unfolding pieces cut
counted-pieces sep [] = refl
counted-pieces sep (b ∷ s) = go (eqb b sep) _ _ (counted-pieces sep s) (some-piece sep s)
  where
    go : (q : Bool) (xs : List ℕ) (ps : List (List ℕ)) → length xs + 1 ≡ length ps → 0 < length ps
        → length (cond q (b ∷ xs) xs) + 1 ≡ length (cut q b ps)
    go true xs ps e h = omega arith
    go false xs [] e h = absurd (omega arith)
    go false xs (p ∷ ps) e h = e
