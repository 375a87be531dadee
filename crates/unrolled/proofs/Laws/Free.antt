-- Free names: none is in the set, no two are the same, each is a name that a field spells, and there is one for each
-- value without a name. Assumes nothing.
use Prim.Native.Nat.{ℕ, zero, suc, ◌+◌, ◌≤◌, ◌<◌}
use native.Mathlib.Omega.{arith}
use mathlib.Core.Path.{◌≡◌, refl, sym, ap, ap₂, ◌∙◌, subst}
use mathlib.Core.Logic.{inl, inr}
use mathlib.Core.Bool.{Bool, true, false, not, ◌&&◌, cond}
use mathlib.Core.List.{List, [], ◌∷◌}
use lib.ListN.{length}
use borrow.Author.Tests.{ne_eqb}
use Rattle.tokens.specs.Token.{Name, same_name}
use Rattle.tokens.specs.Written.{numbered}
use Rattle.tokens.proofs.Laws.Written.{Named}
use Rattle.tokens.proofs.Laws.Numbered.{name-same, name_self, most_number, numbered-same, numbered-named}
use Rattle.rules.specs.Scope.{missing}
use Rattle.unrolled.specs.Unrolled.{is_unnamed, unnamed_in, kept, numbered_from, free_names}
use Rattle.unrolled.proofs.Laws.Set.{In, given_out, missing_in, missing-out, name_dec, in_dec}

-- no two names of the list are the same
abbrev pub Distinct : List Name → Type 0
Distinct [] = Unit {0}
Distinct (n ∷ ns) = (In n ns → ⊥) × Distinct ns

-- ---- the names that are kept

module _ (p : Name → Bool) where
  -- they are of the list, and pass
  in_kept : (n : Name) (ns : List Name) → In n (kept p ns) → In n ns × (p n ≡ true)
  unfolding kept
  in_kept n [] h = absurd h
  in_kept n (m ∷ ns) h = go (p m) refl h (in_kept n ns)
    where
      go : (q : Bool) → p m ≡ q → In n (cond q (m ∷ kept p ns) (kept p ns))
          → (In n (kept p ns) → In n ns × (p n ≡ true)) → In n (m ∷ ns) × (p n ≡ true)
      go true e (inl f) ih = (inl f, ap p f ∙ e)
      go true e (inr f) ih = (inr (ih f).0, (ih f).1)
      go false e f ih = (inr (ih f).0, (ih f).1)

  kept_distinct : (ns : List Name) → Distinct ns → Distinct (kept p ns)
  unfolding kept
  kept_distinct [] h = tt
  kept_distinct (m ∷ ns) h = go (p m) (kept_distinct ns h.1)
    where
      go : (q : Bool) → Distinct (kept p ns) → Distinct (cond q (m ∷ kept p ns) (kept p ns))
      go true ih = ((λ k. h.0 (in_kept m ns k).0), ih)
      go false ih = ih

-- tests that agree keep the same
kept_same : (p q : Name → Bool) (ns : List Name) → ((n : Name) → In n ns → p n ≡ q n) → kept p ns ≡ kept q ns
unfolding kept
kept_same p q [] h = refl
kept_same p q (m ∷ ns) h =
    ap₂ {C = List Name} (λ (b : Bool) (l : List Name). cond b (m ∷ l) l) (h m (inl refl))
    (kept_same p q ns (λ n k. h n (inr k)))

-- ---- q0, q1, ..

numbered_in : (x : Name) (i c : ℕ) → In x (numbered_from i c) → (j : ℕ) × (i ≤ j) × (j < i + c) × (x ≡ numbered j)
unfolding numbered_from
numbered_in x i zero h = absurd h
numbered_in x i (suc c) (inl e) = (i, omega arith, omega arith, e)
numbered_in x i (suc c) (inr h) = let k = numbered_in x (suc i) c h in (k.0, omega arith, omega arith, k.3)

numbered-length : (i c : ℕ) → length (numbered_from i c) ≡ c
unfolding numbered_from
numbered-length i zero = refl
numbered-length i (suc c) = ap suc (numbered-length (suc i) c)

numbered_distinct : (i c : ℕ) → i + c ≤ most_number → Distinct (numbered_from i c)
unfolding numbered_from
numbered_distinct i zero h = tt
numbered_distinct i (suc c) h = (
  (λ k.
      let m = numbered_in (numbered i) (suc i) c k in
      let same : i ≡ m.0 = numbered-same i m.0 (omega arith) (omega arith) m.3 in
      absurd (omega arith)),
  numbered_distinct (suc i) c (omega arith),
)

-- a name that a field spells is not the name of no field
pub named-not : (n : Name) → Named n → is_unnamed n ≡ false
unfolding is_unnamed
named-not n h = ne_eqb (length n.base) 0 (λ e. omega (arith, h.letters))

-- ---- how many are free

-- how many values have a name
named_in : List Name → ℕ
named_in [] = 0
named_in (n ∷ ns) = cond (is_unnamed n) 0 1 + named_in ns

named-unnamed : (ms : List Name) → named_in ms + unnamed_in ms ≡ length ms
unfolding named_in unnamed_in
named-unnamed [] = refl
named-unnamed (m ∷ ms) = go (is_unnamed m) (named-unnamed ms)
  where
    go : (q : Bool) → named_in ms + unnamed_in ms ≡ length ms
        → cond q 0 1 + named_in ms + (cond q 1 0 + unnamed_in ms) ≡ suc (length ms)
    go true h = omega arith
    go false h = omega arith

-- another name is still kept
still : (a : Bool) (x m : Name) → (x ≡ m → ⊥) → a ≡ (a && not (same_name x m))
still false x m h = refl
still true x m h = go (same_name x m) refl
  where
    go : (q : Bool) → same_name x m ≡ q → true ≡ not q
    go true e = absurd (h (name-same x m e))
    go false e = refl

-- one name takes out at most one
one_less : (p : Name → Bool) (m : Name) (ns : List Name) → Distinct ns → ((n : Name) → In n ns → is_unnamed n ≡ false)
    → length (kept p ns) ≤ cond (is_unnamed m) 0 1 + length (kept (λ x. p x && not (same_name x m)) ns)
unfolding kept
one_less p m [] d u = omega arith
one_less p m (n ∷ ns) d u = go (p n) (same_name n m) refl (one_less p m ns d.1 (λ x k. u x (inr k)))
  where
    less : List Name
    less = kept (λ x. p x && not (same_name x m)) ns

    go : (a b : Bool) → same_name n m ≡ b → length (kept p ns) ≤ cond (is_unnamed m) 0 1 + length less
        → length (cond a (n ∷ kept p ns) (kept p ns))
        ≤ cond (is_unnamed m) 0 1 + length (cond (a && not b) (n ∷ less) less)
    go true true e ih =
        let same : n ≡ m = name-same n m e in
        let one : ◌≡◌ {A = ℕ} (cond (is_unnamed m) 0 1) 1 =
        ap (λ (x : Name). cond {A = ℕ} (is_unnamed x) 0 1) (sym same)
        ∙ ap (λ (b : Bool). cond {A = ℕ} b 0 1) (u n (inl refl)) in
        let all : kept p ns ≡ less = kept_same p (λ x. p x && not (same_name x m)) ns
        (λ x k. still (p x) x m (λ f. d.0 (subst (λ (y : Name). In y ns) (f ∙ sym same) k))) in
        omega (arith, ap length all)
    go true false e ih = omega arith
    go false true e ih = ih
    go false false e ih = ih

and_none : (a : Bool) → (a && not true) ≡ false
and_none true = refl
and_none false = refl

missing-not : (x : Name) (ms : List Name) → (In x ms → ⊥) → missing ms x ≡ true
unfolding missing
missing-not x ms h = ap not (given_out x ms h)

neither : (x m : Name) (ms : List Name) → (x ≡ m → ⊥) → (In x ms → ⊥) → In x (m ∷ ms) → ⊥
neither x m ms e h (inl k) = e k
neither x m ms e h (inr k) = h k

kept-all : (ns : List Name) → kept (missing []) ns ≡ ns
unfolding kept
kept-all [] = refl
kept-all (n ∷ ns) = rw (missing-not n [] (λ h. h), kept-all ns)

-- missing in a set: in the rest of it, and not its first name
missing-more : (m : Name) (ms : List Name) (x : Name) → (missing ms x && not (same_name x m)) ≡ missing (m ∷ ms) x
missing-more m ms x = go (name_dec x m) (in_dec x ms)
  where
    out : (In x (m ∷ ms) → ⊥) → missing (m ∷ ms) x ≡ true
    out h = missing-not x (m ∷ ms) h

    go : Dec (x ≡ m) → Dec (In x ms) → (missing ms x && not (same_name x m)) ≡ missing (m ∷ ms) x
    go (yes e) d =
        ap (λ (b : Bool). missing ms x && not b) (ap (same_name x) (sym e) ∙ name_self x)
        ∙ and_none (missing ms x) ∙ sym (missing_in x (m ∷ ms) (inl e))
    go (no e) (yes h) =
        ap (λ (b : Bool). b && not (same_name x m)) (missing_in x ms h) ∙ sym (missing_in x (m ∷ ms) (inr h))
    go (no e) (no h) =
        sym (still (missing ms x) x m e) ∙ missing-not x ms h ∙ sym (out (neither x m ms e h))

-- names of a distinct list that a set takes out are at most its names
kept-count : (ms ns : List Name) → Distinct ns → ((n : Name) → In n ns → is_unnamed n ≡ false)
    → length ns ≤ named_in ms + length (kept (missing ms) ns)
unfolding named_in
kept-count [] ns d u = let e = kept-all ns in omega (arith, ap length e)
kept-count (m ∷ ms) ns d u =
    let a = kept-count ms ns d u in
    let b = one_less (missing ms) m ns d u in
    let c : kept (λ x. missing ms x && not (same_name x m)) ns ≡ kept (missing (m ∷ ms)) ns =
    kept_same (λ x. missing ms x && not (same_name x m)) (missing (m ∷ ms)) ns (λ x k. missing-more m ms x) in
    omega (arith, ap length c)

-- THEOREM: there is a free name for each value without one
pub free_count : (ms : List Name) → length ms ≤ most_number → unnamed_in ms ≤ length (free_names ms)
unfolding free_names
free_count ms h =
    let ns = numbered_from 0 (length ms) in
    let d = numbered_distinct 0 (length ms) (omega arith) in
    let k = kept-count ms ns d (λ n l.
    let m = numbered_in n 0 (length ms) l in
    subst (λ (x : Name). is_unnamed x ≡ false) (sym m.3)
    (named-not (numbered m.0) (numbered-named m.0 (omega arith)))) in
    omega (arith, numbered-length 0 (length ms), named-unnamed ms)

-- THEOREM: no two are the same
pub free_distinct : (ms : List Name) → length ms ≤ most_number → Distinct (free_names ms)
unfolding free_names
free_distinct ms h =
    kept_distinct (missing ms) (numbered_from 0 (length ms)) (numbered_distinct 0 (length ms) (omega arith))

-- THEOREM: none is in the set
pub free_out : (ms : List Name) (n : Name) → In n (free_names ms) → In n ms → ⊥
unfolding free_names
free_out ms n h = missing-out n ms (in_kept (missing ms) n (numbered_from 0 (length ms)) h).1

-- THEOREM: each is a name that a field spells
pub free_named : (ms : List Name) → length ms ≤ most_number → (n : Name) → In n (free_names ms) → Named n
unfolding free_names
free_named ms h n k =
    let m = numbered_in n 0 (length ms) (in_kept (missing ms) n (numbered_from 0 (length ms)) k).0 in
    subst Named (sym m.3) (numbered-named m.0 (omega arith))
