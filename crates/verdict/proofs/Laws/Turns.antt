-- One turn of each loop of run, over any algebra: an XOR from the front, the values of a block, the inputs' values.
-- Assumes nothing.
use Rattle.std.proofs.Common.{◌≡◌, ℕ, suc, ◌+◌, ◌-◌, ◌<◌, List, [], ◌∷◌, ◌++◌, map, fold, length, get_or, take, drop, set, sym, ◌∙◌, append_assoc, arith, bit_xor}
use Rattle.std.proofs.lemmas.List.Folds.{fold-map}
use lib.Seq.{drop-length}
use Rattle.field.specs.Xor.{◌⊕◌}
use Rattle.field.proofs.Laws.Xor.{⊕-assoc, ⊕-zero, zero-⊕}
use Rattle.rules.specs.declared.types.Operand.TheVariants.{Place}
use Rattle.rules.specs.declared.types.Op.TheVariants.{Set}
use Rattle.rules.specs.declared.types.Statement.{Statement}
use Rattle.rules.specs.declared.types.AffineMap.{AffineMap}
use Rattle.verdict.specs.Lists.{lots}
use Rattle.verdict.specs.Meaning.{Algebra, given, values, joined}
use Rattle.verdict.proofs.Laws.Parts.{take_store, drop-first}
use Rattle.verdict.specs.Instances.{bytes}

-- what an array of statements reads as past its end
abbrev pub blank : Statement
blank = record { op = Set (Place 0); line = 0 }

module _ {X : Type 0} (A : Algebra X) where
  -- the next statement's value behind the others
  pub values-more : (maps : List AffineMap) (xs vs : List X) (ss : List Statement) (at i : ℕ) (v : X) (d : Statement)
      → at < length vs → i < length ss → v ≡ given A maps xs (take at vs) (get_or ss i d).op
      → values A maps xs (take (at + 1) (set vs at v)) (drop (i + 1) ss) ≡ values A maps xs (take at vs) (drop i ss)
  unfolding values
  values-more maps xs vs ss at i v d h k e = rw (take_store vs at v h, drop-first ss i d k, e)

  -- the next input's value behind the others; ys are the variables from its shares on
  pub inputs-more : (vs ys : List X) (k i n : ℕ) (v : X) → i < length vs → i < n → v ≡ joined A (take k ys)
      → take (i + 1) (set vs i v) ++ map (joined A) (lots k (n - (i + 1)) (drop k ys))
      ≡ take i vs ++ map (joined A) (lots k (n - i) ys)
  inputs-more vs ys k i n v h j e =
      let left : n - i ≡ suc (n - (i + 1)) = omega arith in
      rw (take_store vs i v h, left, e) (append_assoc (take i vs) _ _)

  -- no statement is left
  pub values-none : (maps : List AffineMap) (xs vs : List X) (ss : List Statement) (i : ℕ) → i ≡ length ss
      → values A maps xs vs (drop i ss) ≡ vs
  unfolding values
  values-none maps xs vs ss i h = rw (h, drop-length ss)

-- ---- an XOR of bytes from the front

-- behind a sum so far
joined_from : (m a : ℕ) (xs : List ℕ) → fold bit_xor a xs ≡ bit_xor a (joined (bytes m) xs)
unfolding joined bytes ◌⊕◌
joined_from m a [] = sym (⊕-zero a)
joined_from m a (x ∷ xs) = joined_from m (bit_xor a x) xs ∙ ⊕-assoc a x (joined (bytes m) xs)

-- of all
pub joined-fold : (m : ℕ) (xs : List ℕ) → fold bit_xor 0 xs ≡ joined (bytes m) xs
unfolding ◌⊕◌
joined-fold m xs = joined_from m 0 xs ∙ zero-⊕ (joined (bytes m) xs)

-- of what f gives
pub joined-fold_map : (m : ℕ) (f : ℕ → ℕ) (xs : List ℕ)
    → fold (λ s x. bit_xor s (f x)) 0 xs ≡ joined (bytes m) (map f xs)
joined-fold_map m f xs = sym (fold-map bit_xor f 0 xs) ∙ joined-fold m (map f xs)
