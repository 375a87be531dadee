-- The names of an input's shares, stored one by one.
-- Assumes nothing.
use Prim.Native.Nat.{ℕ, zero, suc, ◌+◌, ◌≤◌, ◌<◌}
use mathlib.Core.Path.{◌≡◌, refl, sym, ◌∙◌, ap}
use mathlib.Core.List.{List, [], ◌∷◌, ◌++◌, append_assoc, append-nil}
use native.Mathlib.Omega.{arith}
use lib.ListN.{length}
use Rattle.grammar.specs.declared.line.NameRef.{NameRef}
use Rattle.tokens.specs.Token.{Name}
use Rattle.grammar.specs.Line.{name_in}
use Rattle.rules.specs.Limits.{most_entries}
use Rattle.rules.specs.Scope.{share_names}
use Rattle.lookup.specs.Names.{listed, put, put_shares}
use Rattle.lookup.proofs.Laws.Named.{put-length, listed-apart, listed_next}

-- one share more stands behind the others
share-last : (x : Name) (i k : ℕ) → share_names x i (suc k) ≡ share_names x i k ++ record {
  base = x.base;
  part = i + k;
} ∷ []
unfolding share_names
share-last x i zero =
    let e : i ≡ i + 0 = omega arith in
    ap (λ (p : ℕ). record { base = x.base; part = p } ∷ []) e
share-last x i (suc k) =
    let e : i + 1 + k ≡ i + suc k = omega arith in
    ap (λ (ns : List Name). record { base = x.base; part = i } ∷ ns)
    (share-last x (i + 1) k ∙ ap (λ (p : ℕ). share_names x (i + 1) k ++ record { base = x.base; part = p } ∷ []) e)

module _ (t : List NameRef) (at : ℕ) (x : NameRef) where
  -- share k of x
  share : ℕ → NameRef
  share k = record { at = x.at; len = x.len; part = k }

  -- the stores keep the size
  pub shares-length : (k : ℕ) → length (put_shares t at x k) ≡ length t
  unfolding put_shares share
  shares-length zero = refl
  shares-length (suc k) = put-length (put_shares t at x k) (at + k) (share k) ∙ shares-length k

  -- other names stay as they are
  pub shares-apart : (s : List ℕ) (from n k : ℕ) → ((i : ℕ) → from ≤ i → i < from + n → at ≤ i → i < at + k → ⊥)
      → listed s (put_shares t at x k) from n ≡ listed s t from n
  unfolding put_shares share
  shares-apart s from n zero h = refl
  shares-apart s from n (suc k) h =
      listed-apart (put_shares t at x k) (at + k) (share k) s from n
      (λ i a b e. h i a b (omega arith) (omega arith))
      ∙ shares-apart s from n k (λ i a b c d. h i a b c (omega arith))

-- the shares of x stored behind the others are so many names more
pub listed-shares : (s : List ℕ) (t : List NameRef) (x : NameRef) (from n k : ℕ) → from + n + k ≤ most_entries
    → length t ≡ most_entries
    → listed s (put_shares t (from + n) x k) from (n + k) ≡ listed s t from n ++ share_names (name_in s x) 0 k
unfolding put_shares share_names name_in
listed-shares s t x from n zero h l =
    let e : n + 0 ≡ n = omega arith in
    ap (listed s t from) e ∙ sym (append-nil (listed s t from n))
listed-shares s t x from n (suc k) h l =
    let done = put_shares t (from + n) x k in
    let y : NameRef = record { at = x.at; len = x.len; part = k } in
    let e : from + n + k ≡ from + (n + k) = omega arith in
    let c : n + suc k ≡ n + k + 1 = omega arith in
    let same : 0 + k ≡ k = omega arith in
    (λ j. listed s (put done (e j) y) from (c j))
    ∙ listed_next s done y from (n + k) (omega arith) (shares-length t (from + n) x k ∙ l)
    ∙ ap (λ (ns : List Name). ns ++ name_in s y ∷ []) (listed-shares s t x from n k (omega arith) l)
    ∙ append_assoc (listed s t from n) (share_names (name_in s x) 0 k) (name_in s y ∷ [])
    ∙ ap (λ (ns : List Name). listed s t from n ++ ns)
    (sym
    (share-last (name_in s x) 0 k
    ∙ ap (λ (p : ℕ). share_names (name_in s x) 0 k ++ record { base = (name_in s x).base; part = p } ∷ []) same))
