-- One element more in the part of an array that is in use. Assumes nothing.
use Prim.Native.Nat.{ℕ, ◌+◌, ◌<◌}
use native.Mathlib.Omega.{arith}
use native.Mathlib.Numerals.{add-one}
use mathlib.Core.Path.{◌≡◌, ◌∙◌, ap}
use mathlib.Core.List.{List, [], ◌∷◌, ◌++◌}
use lib.ListN.{length, take, drop, set, length-drop}
use lib.Seq.{take-suc-set, drop-set-add}

module _ {A : Type 0} (xs : List A) (x : A) where
  -- one element more behind the first n
  pub front-more : (n : ℕ) → n < length xs → take (n + 1) (set xs n x) ≡ take n xs ++ x ∷ []
  front-more n h = rw add-one (take-suc-set xs n x h)

  -- one element more behind the m that follow the first n
  pub rest_more : (n m : ℕ) → n + m < length xs
      → take (m + 1) (drop n (set xs (n + m) x)) ≡ take m (drop n xs) ++ x ∷ []
  rest_more n m h =
      let room : m < length (drop n xs) = omega (arith, length-drop n xs) in
      ap (take (m + 1)) (drop-set-add n xs m x) ∙ rw add-one (take-suc-set (drop n xs) m x room)
