-- Elements set one behind the other in an array, and entries without a name in the table. Assumes nothing.
use Prim.Native.Nat.{ℕ, zero, suc, ◌+◌, ◌-◌, ◌≤◌, ◌<◌}
use native.Mathlib.Omega.{arith}
use mathlib.Core.Path.{◌≡◌, refl, sym, ◌∙◌, ap}
use mathlib.Core.List.{List, [], ◌∷◌, ◌++◌, append_assoc, append-nil}
use lib.ListN.{length, take, drop, set, replicate, length-set}
use lib.Seq.{take-set-le, drop-set-add}
use Rattle.grammar.specs.declared.line.NameRef.{NameRef}
use Rattle.tokens.specs.Token.{Name}
use Rattle.grammar.specs.Line.{name_in}
use Rattle.rules.specs.Stated.{unnamed}
use Rattle.rules.specs.Limits.{most_entries}
use Rattle.lookup.specs.Names.{listed, put}
use Rattle.lookup.specs.Coded.{written}
use Rattle.lines.specs.Lets.{nameless, put_nameless, put_let}
use Rattle.lookup.proofs.Laws.Arrays.{front-more}
use Rattle.lookup.proofs.Laws.Named.{put-length, listed-apart, listed_next}

-- ---- arrays

module _ {A : Type 0} where
  -- so many elements more behind the first n
  pub all-front : (xs : List A) (n : ℕ) (ys : List A) → n + length ys ≤ length xs
      → take (n + length ys) (written xs n ys) ≡ take n xs ++ ys
  unfolding written
  all-front xs n [] h =
      let e : n + 0 ≡ n = omega arith in
      ap (λ (i : ℕ). take i xs) e ∙ sym (append-nil (take n xs))
  all-front xs n (y ∷ ys) h =
      let e : n + suc (length ys) ≡ n + 1 + length ys = omega arith in
      ap (λ (i : ℕ). take i (written (set xs n y) (n + 1) ys)) e
      ∙ all-front (set xs n y) (n + 1) ys (omega (arith, length-set xs n y))
      ∙ ap (λ (l : List A). l ++ ys) (front-more xs y n (omega arith))
      ∙ append_assoc (take n xs) (y ∷ []) ys

  -- behind the first o elements
  pub all_drop : (o : ℕ) (xs : List A) (m : ℕ) (ys : List A) → drop o (written xs (o + m) ys) ≡ written (drop o xs) m ys
  unfolding written
  all_drop o xs m [] = refl
  all_drop o xs m (y ∷ ys) =
      let e : o + m + 1 ≡ o + (m + 1) = omega arith in
      ap (λ (i : ℕ). drop o (written (set xs (o + m) y) i ys)) e
      ∙ all_drop o (set xs (o + m) y) (m + 1) ys
      ∙ ap (λ (l : List A). written l (m + 1) ys) (drop-set-add o xs m y)

  -- the elements before stay
  pub all-low : (n : ℕ) (xs : List A) (at : ℕ) (ys : List A) → n ≤ at → take n (written xs at ys) ≡ take n xs
  unfolding written
  all-low n xs at [] h = refl
  all-low n xs at (y ∷ ys) h = all-low n (set xs at y) (at + 1) ys (omega arith) ∙ take-set-le n xs at y h

-- ---- the table

module _ (t : List NameRef) (at : ℕ) where
  nameless-length : (n : ℕ) → length (put_nameless t at n) ≡ length t
  unfolding put_nameless
  nameless-length zero = refl
  nameless-length (suc n) = put-length (put_nameless t at n) (at + n) nameless ∙ nameless-length n

  nameless-apart : (s : List ℕ) (from n k : ℕ) → ((i : ℕ) → from ≤ i → i < from + n → at ≤ i → i < at + k → ⊥)
      → listed s (put_nameless t at k) from n ≡ listed s t from n
  unfolding put_nameless
  nameless-apart s from n zero h = refl
  nameless-apart s from n (suc k) h =
      listed-apart (put_nameless t at k) (at + k) nameless s from n (λ i a b e. h i a b (omega arith) (omega arith))
      ∙ nameless-apart s from n k (λ i a b c d. h i a b c (omega arith))

  -- the table keeps its size
  pub let_size : (x : NameRef) (n : ℕ) → length (put_let t at x n) ≡ length t
  let_size x n = put-length (put_nameless t at (n - 1)) (at + (n - 1)) x ∙ nameless-length (n - 1)

  -- other names stay as they are
  pub let_apart : (x : NameRef) (c : ℕ) → 1 ≤ c → (s : List ℕ) (from n : ℕ)
      → ((i : ℕ) → from ≤ i → i < from + n → at ≤ i → i < at + c → ⊥)
      → listed s (put_let t at x c) from n ≡ listed s t from n
  let_apart x c l s from n h =
      listed-apart (put_nameless t at (c - 1)) (at + (c - 1)) x s from n
      (λ i a b e. h i a b (omega arith) (omega arith))
      ∙ nameless-apart s from n (c - 1) (λ i a b d e. h i a b d (omega arith))

-- one element more at the end of so many that are the same
pub same-last : {A : Type 0} (k : ℕ) (x : A) → replicate (suc k) x ≡ replicate k x ++ x ∷ []
same-last zero x = refl
same-last {A = A} (suc k) x = ap (λ (l : List A). x ∷ l) (same-last k x)

listed-nameless : (s : List ℕ) (t : List NameRef) (from n k : ℕ) → from + n + k ≤ most_entries → length t ≡ most_entries
    → listed s (put_nameless t (from + n) k) from (n + k) ≡ listed s t from n ++ replicate k unnamed
unfolding put_nameless name_in
listed-nameless s t from n zero h l =
    let e : n + 0 ≡ n = omega arith in
    ap (listed s t from) e ∙ sym (append-nil (listed s t from n))
listed-nameless s t from n (suc k) h l =
    let done = put_nameless t (from + n) k in
    let e : from + n + k ≡ from + (n + k) = omega arith in
    let c : n + suc k ≡ n + k + 1 = omega arith in
    (λ j. listed s (put done (e j) nameless) from (c j))
    ∙ listed_next s done nameless from (n + k) (omega arith) (nameless-length t (from + n) k ∙ l)
    ∙ ap (λ (ns : List Name). ns ++ unnamed ∷ []) (listed-nameless s t from n k (omega arith) l)
    ∙ append_assoc (listed s t from n) (replicate k unnamed) (unnamed ∷ [])
    ∙ ap (λ (ns : List Name). listed s t from n ++ ns) (sym (same-last k unnamed))

-- the values of a formula stored behind the others are so many names more
pub listed_let : (s : List ℕ) (t : List NameRef) (x : NameRef) (from n c : ℕ) → 1 ≤ c → from + n + c ≤ most_entries
    → length t ≡ most_entries
    → listed s (put_let t (from + n) x c) from (n + c)
    ≡ listed s t from n ++ (replicate (c - 1) unnamed ++ name_in s x ∷ [])
listed_let s t x from n c some h l =
    let m = c - 1 in
    let done = put_nameless t (from + n) m in
    let e : from + n + m ≡ from + (n + m) = omega arith in
    let d : n + c ≡ n + m + 1 = omega arith in
    (λ j. listed s (put done (e j) x) from (d j))
    ∙ listed_next s done x from (n + m) (omega arith) (nameless-length t (from + n) m ∙ l)
    ∙ ap (λ (ns : List Name). ns ++ name_in s x ∷ []) (listed-nameless s t from n m (omega arith) l)
    ∙ append_assoc (listed s t from n) (replicate m unnamed) (name_in s x ∷ [])
