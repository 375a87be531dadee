-- The names that the statements of a `let` give in the unrolled form are new, each of them. Assumes nothing.
use Prim.Native.Nat.{ℕ, zero, suc, ◌+◌, ◌≤◌, ◌<◌}
use native.Mathlib.Omega.{arith}
use native.Mathlib.Decide.{dec_le}
use mathlib.Core.Path.{◌≡◌, refl, sym, ap, ◌∙◌, subst}
use mathlib.Core.Logic.{◌⊎◌, inl, inr}
use mathlib.Core.List.{List, [], ◌∷◌, ◌++◌}
use lib.ListN.{length, take, drop, get_or, replicate, length-append, length-drop, get_or-append}
use lib.Seq.{length-take-le, get_or-take, get_or-drop, get_or_at}
use Rattle.tokens.specs.Token.{Name}
use Rattle.tokens.proofs.Laws.Written.{Named}
use Rattle.tokens.proofs.Laws.Numbered.{most_number}
use Rattle.rules.specs.Stated.{unnamed}
use Rattle.unrolled.specs.Unrolled.{is_unnamed, unnamed_in, free_names}
use Rattle.unrolled.proofs.Laws.Set.{In, in_left, in_right, in_parts}
use Rattle.unrolled.proofs.Laws.Free.{Distinct, free_count, free_distinct, free_out, free_named}
use Rattle.unrolled.proofs.Laws.Filled.{filled, filled_in}
use Rattle.unrolled.proofs.Laws.Related.{get_d_in, off_used}

-- ---- lists

-- what stands in the first part of a list
take_in : (y : Name) (i : ℕ) (l : List Name) (d : Name) → In y (take i l)
    → (j : ℕ) × (j < i) × (y ≡ get_or l j d)
take_in y zero l d h = absurd h
take_in y (suc i) [] d h = absurd h
take_in y (suc i) (x ∷ l) d (inl e) = (0, omega arith, e)
take_in y (suc i) (x ∷ l) d (inr h) = let k = take_in y i l d h in (suc k.0, omega arith, k.2)

-- two places of a list with no name twice
distinct_same : (l : List Name) (d : Name) → Distinct l → (i j : ℕ) → i < length l → j < length l
    → get_or l i d ≡ get_or l j d → i ≡ j
distinct_same [] d h i j a b e = absurd (omega arith)
distinct_same (x ∷ l) d h zero zero a b e = refl
distinct_same (x ∷ l) d h zero (suc j) a b e =
    absurd (h.0 (subst (λ (y : Name). In y l) (sym e) (get_d_in l j d (omega arith))))
distinct_same (x ∷ l) d h (suc i) zero a b e =
    absurd (h.0 (subst (λ (y : Name). In y l) e (get_d_in l i d (omega arith))))
distinct_same (x ∷ l) d h (suc i) (suc j) a b e =
    ap suc (distinct_same l d h.1 i j (omega arith) (omega arith) e)

-- ---- counting values without a name

unnamed_append : (ms ns : List Name) → unnamed_in (ms ++ ns) ≡ unnamed_in ms + unnamed_in ns
unfolding unnamed_in
unnamed_append [] ns = omega arith
unnamed_append (m ∷ ms) ns = let e = unnamed_append ms ns in omega arith

unnamed-replicate : (c : ℕ) → unnamed_in (replicate c unnamed) ≡ c
unfolding unnamed_in is_unnamed
unnamed-replicate zero = refl
unnamed-replicate (suc c) = let e = unnamed-replicate c in omega arith

-- ---- the names of a `let` with c + 1 statements, in a set that holds the names ms above it and more below

module _ (used ms more : List Name) (c : ℕ) (x : Name) (named : Named x) (few : length used ≤ most_number)
    (front : (ms ++ (replicate c unnamed ++ x ∷ [])) ++ more ≡ used) (new : In x ms → ⊥) where
  -- the k-th free name
  abbrev free_at : ℕ → Name
  free_at k = get_or (free_names used) k unnamed

  -- the names of the inner values
  inner : List Name
  inner = take c (drop (unnamed_in ms) (free_names used))

  -- there are enough free names
  pub let_room : unnamed_in ms + c ≤ length (free_names used)
  let_room =
      let f = free_count used few in
      omega (
        arith,
        ap unnamed_in front,
        unnamed_append (ms ++ (replicate c unnamed ++ x ∷ [])) more,
        unnamed_append ms (replicate c unnamed ++ x ∷ []),
        unnamed_append (replicate c unnamed) (x ∷ []),
        unnamed-replicate c,
      )

  inner-length : length inner ≡ c
  unfolding inner
  inner-length =
      length-take-le c (drop (unnamed_in ms) (free_names used))
      (omega (arith, let_room, length-drop (unnamed_in ms) (free_names used)))

  -- all names
  abbrev names : List Name
  names = take c (drop (unnamed_in ms) (free_names used)) ++ x ∷ []

  -- as many as there are statements
  pub names-length : length (take c (drop (unnamed_in ms) (free_names used)) ++ x ∷ []) ≡ c + 1
  unfolding inner
  names-length = omega (arith, inner-length, length-append inner (x ∷ []))

  -- an inner value has a free name
  names-inner : (i : ℕ) → i < c → get_or names i unnamed ≡ free_at (unnamed_in ms + i)
  unfolding inner
  names-inner i h =
      get_or-append inner (x ∷ []) unnamed i (omega (arith, inner-length))
      ∙ get_or-take c (drop (unnamed_in ms) (free_names used)) i unnamed h
      ∙ get_or-drop (unnamed_in ms) (free_names used) i unnamed

  -- the last is the name of the `let`
  names-last : get_or names c unnamed ≡ x
  unfolding inner
  names-last = get_or_at inner x [] unnamed c inner-length

  -- an inner value, or the last
  at_cases : (P : Name → Type 0) (i : ℕ) → i < c + 1 → (i < c → P (free_at (unnamed_in ms + i))) → (i ≡ c → P x)
      → P (get_or names i unnamed)
  at_cases P i h f g = go (dec_le (suc i) c)
    where
      go : Dec (suc i ≤ c) → P (get_or names i unnamed)
      go (yes l) = subst P (sym (names-inner i l)) (f l)
      go (no l) =
          let e : i ≡ c = omega arith in
          subst P (sym (ap (λ (j : ℕ). get_or names j unnamed) e ∙ names-last)) (g e)

  -- the set holds the names above the `let`, and its own
  in_used : (y : Name) → In y ms → In y used
  in_used y h =
      subst (In y) front (in_left y (ms ++ (replicate c unnamed ++ x ∷ [])) more
      (in_left y ms (replicate c unnamed ++ x ∷ []) h))

  x_used : In x used
  x_used =
      subst (In x) front (in_left x (ms ++ (replicate c unnamed ++ x ∷ [])) more
      (in_right x ms (replicate c unnamed ++ x ∷ []) (in_right x (replicate c unnamed) (x ∷ []) (inl refl))))

  -- THEOREM: each is a name that a field spells
  pub names-named : (i : ℕ) → i < c + 1
      → Named (get_or (take c (drop (unnamed_in ms) (free_names used)) ++ x ∷ []) i unnamed)
  names-named i h =
      at_cases Named i h
      (λ l. free_named used few (free_at (unnamed_in ms + i))
      (get_d_in (free_names used) (unnamed_in ms + i) unnamed (omega (arith, let_room))))
      (λ e. named)

  -- no name of the set, and no free name before it
  inner-new : (i : ℕ) → i < c → (y : Name) → y ≡ free_at (unnamed_in ms + i) → In y used → ⊥
  inner-new i h y e k =
      free_out used (free_at (unnamed_in ms + i))
      (get_d_in (free_names used) (unnamed_in ms + i) unnamed (omega (arith, let_room)))
      (subst (λ (z : Name). In z used) e k)

  inner-other : (i j : ℕ) → i < c → j < unnamed_in ms + i → free_at (unnamed_in ms + i) ≡ free_at j → ⊥
  inner-other i j h l e =
      let same = distinct_same (free_names used) unnamed (free_distinct used few) (unnamed_in ms + i) j
      (omega (arith, let_room)) (omega (arith, let_room)) e in
      omega (arith, same)

  x_other : (j : ℕ) → x ≡ free_at j → ⊥
  x_other j e = (off_used used x named x_used).apart j e

  -- a name before place i
  before : (i : ℕ) → i < c + 1 → (y : Name) → In y (take i names)
      → (j : ℕ) × (j < unnamed_in ms + i) × (y ≡ free_at j)
  before i h y k =
      let t = take_in y i names unnamed k in
      let l : t.0 < c = omega arith in
      (unnamed_in ms + t.0, omega arith, t.2 ∙ names-inner t.0 l)

  -- THEOREM: each is new, behind those of the set and those before it
  pub names-new : (i : ℕ) → i < c + 1
      → (let ns = take c (drop (unnamed_in ms) (free_names used)) ++ x ∷ [] in
      In (get_or ns i unnamed) (filled (free_names used) 0 ms ++ take i ns) → ⊥)
  names-new i h =
      at_cases (λ y. In y (filled (free_names used) 0 ms ++ take i names) → ⊥) i h
      (λ l k. inner_case l (in_parts (free_at (unnamed_in ms + i)) (filled (free_names used) 0 ms) (take i names) k))
      (λ e k. last_case (in_parts x (filled (free_names used) 0 ms) (take i names) k))
    where
      inner-set : i < c → In (free_at (unnamed_in ms + i)) ms
          ⊎ ((j : ℕ) × (j < 0 + unnamed_in ms) × (free_at (unnamed_in ms + i) ≡ free_at j)) → ⊥
      inner-set l (inl k) = inner-new i l (free_at (unnamed_in ms + i)) refl (in_used (free_at (unnamed_in ms + i)) k)
      inner-set l (inr k) = inner-other i k.0 l (omega arith) k.2

      inner_case : i < c → In (free_at (unnamed_in ms + i)) (filled (free_names used) 0 ms)
          ⊎ In (free_at (unnamed_in ms + i)) (take i names) → ⊥
      inner_case l (inl k) = inner-set l (filled_in (free_names used) (free_at (unnamed_in ms + i)) 0 ms k)
      inner_case l (inr k) =
          let b = before i h (free_at (unnamed_in ms + i)) k in
          inner-other i b.0 l b.1 b.2

      last_set : In x ms ⊎ ((j : ℕ) × (j < 0 + unnamed_in ms) × (x ≡ free_at j)) → ⊥
      last_set (inl k) = new k
      last_set (inr k) = x_other k.0 k.2

      last_case : In x (filled (free_names used) 0 ms) ⊎ In x (take i names) → ⊥
      last_case (inl k) = last_set (filled_in (free_names used) x 0 ms k)
      last_case (inr k) = let b = before i h x k in x_other b.0 b.2
