-- The names of a set, those of no field replaced by free ones: every other name keeps its place. Assumes nothing.
use Prim.Native.Nat.{ℕ, zero, suc, ◌+◌, ◌≤◌, ◌<◌}
use native.Mathlib.Omega.{arith}
use mathlib.Core.Path.{◌≡◌, refl, sym, ap, ap₂, ◌∙◌}
use mathlib.Core.Logic.{◌⊎◌, inl, inr}
use mathlib.Core.Bool.{Bool, true, false, cond}
use mathlib.Core.List.{List, [], ◌∷◌, ◌++◌}
use lib.Dec.{ltb}
use lib.ListN.{length, take, drop, get_or, replicate}
use lib.Seq.{drop-cons}
use Rattle.tokens.specs.Split.{later, until}
use Rattle.tokens.specs.Token.{Name, same_name}
use Rattle.tokens.proofs.Laws.Flags.{true-false}
use Rattle.tokens.proofs.Laws.Numbered.{name-same}
use Rattle.rules.specs.Stated.{unnamed}
use Rattle.rules.specs.Scope.{place_of, given}
use Rattle.unrolled.specs.Unrolled.{is_unnamed, unnamed_in}
use Rattle.unrolled.proofs.Laws.Set.{In}

module _ (free : List Name) where
  -- the k-th free name
  abbrev pub free_at : ℕ → Name
  free_at k = get_or free k unnamed

  -- a set's names, those without a field's name being free names from the k-th on
  unfoldable pub filled : ℕ → List Name → List Name
  filled k [] = []
  filled k (n ∷ ns) = cond (is_unnamed n) (free_at k ∷ filled (suc k) ns) (n ∷ filled k ns)

  -- as many names as there were
  pub filled-length : (k : ℕ) (ns : List Name) → length (filled k ns) ≡ length ns
  unfolding filled
  filled-length k [] = refl
  filled-length k (n ∷ ns) = go (is_unnamed n) (filled-length k ns) (filled-length (suc k) ns)
    where
      go : (q : Bool) → length (filled k ns) ≡ length ns → length (filled (suc k) ns) ≡ length ns
          → length (cond q (free_at k ∷ filled (suc k) ns) (n ∷ filled k ns)) ≡ suc (length ns)
      go true a b = ap suc b
      go false a b = ap suc a

  -- part by part
  pub filled_append : (k : ℕ) (ms ns : List Name) → filled k (ms ++ ns) ≡ filled k ms ++ filled (k + unnamed_in ms) ns
  unfolding filled unnamed_in
  filled_append k [] ns = let e : k ≡ k + 0 = omega arith in ap (λ (i : ℕ). filled i ns) e
  filled_append k (m ∷ ms) ns = go (is_unnamed m) (filled_append k ms ns) (filled_append (suc k) ms ns)
    where
      go : (q : Bool) → filled k (ms ++ ns) ≡ filled k ms ++ filled (k + unnamed_in ms) ns
          → filled (suc k) (ms ++ ns) ≡ filled (suc k) ms ++ filled (suc k + unnamed_in ms) ns
          → cond q (free_at k ∷ filled (suc k) (ms ++ ns)) (m ∷ filled k (ms ++ ns))
          ≡ cond q (free_at k ∷ filled (suc k) ms) (m ∷ filled k ms) ++ filled (k + (cond q 1 0 + unnamed_in ms)) ns
      go true a b =
          let e : suc k + unnamed_in ms ≡ k + (1 + unnamed_in ms) = omega arith in
          ap (λ (l : List Name). free_at k ∷ l) (b ∙ ap (λ (i : ℕ). filled (suc k) ms ++ filled i ns) e)
      go false a b =
          let e : k + unnamed_in ms ≡ k + (0 + unnamed_in ms) = omega arith in
          ap (λ (l : List Name). m ∷ l) (a ∙ ap (λ (i : ℕ). filled k ms ++ filled i ns) e)

  -- the names of a `let`
  pub filled_let : (k c : ℕ) (n : Name) → is_unnamed n ≡ false → k + c ≤ length free
      → filled k (replicate c unnamed ++ n ∷ []) ≡ take c (drop k free) ++ n ∷ []
  unfolding filled is_unnamed
  filled_let k zero n u h = rw u
  filled_let k (suc c) n u h =
      ap (λ (l : List Name). free_at k ∷ l) (filled_let (suc k) c n u (omega arith))
      ∙ sym (ap (λ (l : List Name). take (suc c) l ++ n ∷ []) (drop-cons free k unnamed (omega arith)))

  -- a name of the filled set is one of the set, or a free name
  pub filled_in : (x : Name) (k : ℕ) (ns : List Name) → In x (filled k ns)
      → In x ns ⊎ ((j : ℕ) × (j < k + unnamed_in ns) × (x ≡ free_at j))
  unfolding filled unnamed_in
  filled_in x k [] h = absurd h
  filled_in x k (n ∷ ns) h = go (is_unnamed n) h (filled_in x k ns) (filled_in x (suc k) ns)
    where
      go : (q : Bool) → In x (cond q (free_at k ∷ filled (suc k) ns) (n ∷ filled k ns))
          → (In x (filled k ns) → In x ns ⊎ ((j : ℕ) × (j < k + unnamed_in ns) × (x ≡ free_at j)))
          → (In x (filled (suc k) ns) → In x ns ⊎ ((j : ℕ) × (j < suc k + unnamed_in ns) × (x ≡ free_at j)))
          → In x (n ∷ ns) ⊎ ((j : ℕ) × (j < k + (cond q 1 0 + unnamed_in ns)) × (x ≡ free_at j))
      go true (inl e) f g = inr (k, omega arith, e)
      go true (inr e) f g = after (g e)
        where
          after : In x ns ⊎ ((j : ℕ) × (j < suc k + unnamed_in ns) × (x ≡ free_at j))
              → In x (n ∷ ns) ⊎ ((j : ℕ) × (j < k + (1 + unnamed_in ns)) × (x ≡ free_at j))
          after (inl e) = inl (inr e)
          after (inr e) = inr (e.0, omega arith, e.2)
      go false (inl e) f g = inl (inl e)
      go false (inr e) f g = after (f e)
        where
          after : In x ns ⊎ ((j : ℕ) × (j < k + unnamed_in ns) × (x ≡ free_at j))
              → In x (n ∷ ns) ⊎ ((j : ℕ) × (j < k + (0 + unnamed_in ns)) × (x ≡ free_at j))
          after (inl e) = inl (inr e)
          after (inr e) = inr (e.0, omega arith, e.2)

  -- a name that a field spells, and no free name
  pub record Off (n : Name) : Type 0 where
    pub named : is_unnamed n ≡ false
    pub apart : (j : ℕ) → n ≡ free_at j → ⊥

  not_same : (n m : Name) → (n ≡ m → ⊥) → same_name n m ≡ false
  not_same n m h = go (same_name n m) refl
    where
      go : (q : Bool) → same_name n m ≡ q → q ≡ false
      go true e = absurd (h (name-same n m e))
      go false e = refl

  -- THEOREM: it keeps its place
  pub place-filled : (n : Name) → Off n → (k : ℕ) (ns : List Name) → place_of n (filled k ns) ≡ place_of n ns
  unfolding filled place_of until
  place-filled n o k [] = refl
  place-filled n o k (m ∷ ns) = go (is_unnamed m) refl (place-filled n o k ns) (place-filled n o (suc k) ns)
    where
      go : (q : Bool) → is_unnamed m ≡ q → until (same_name n) (filled k ns) ≡ until (same_name n) ns
          → until (same_name n) (filled (suc k) ns) ≡ until (same_name n) ns
          → until (same_name n) (cond q (free_at k ∷ filled (suc k) ns) (m ∷ filled k ns))
          ≡ later (same_name n m) (until (same_name n) ns)
      go true e a b =
          ap₂ {C = ℕ} later (not_same n (free_at k) (o.apart k)
          ∙ sym (not_same n m (λ f. true-false (sym e ∙ ap is_unnamed (sym f) ∙ o.named)))) b
      go false e a b = ap (later (same_name n m)) a

  -- THEOREM: it is given where it was
  pub given-filled : (n : Name) → Off n → (k : ℕ) (ns : List Name) → given n (filled k ns) ≡ given n ns
  unfolding given
  given-filled n o k ns = ap₂ {C = Bool} ltb (place-filled n o k ns) (filled-length k ns)
