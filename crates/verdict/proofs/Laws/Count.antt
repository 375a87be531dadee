-- The count: `first_over` finds the first place over the limit, and nothing else.
-- Assumes nothing.
use Rattle.std.proofs.Common.{◌≡◌, ℕ, zero, suc, ◌+◌, ◌<◌, ◌≤◌, Bool, true, false, cond, ltb, List, [], ◌∷◌, length, sym, refl, arith, ltb-false, ltb-true}
use Rattle.std.specs.Prelude.{None as none, Some as some}
use native.Mathlib.Decide.{dec_le}
use Rattle.rules.specs.Read.{Routine}
use Rattle.verdict.specs.Count.{Step, step_at, standing, first_over, Over, First}

none-some : {a : ℕ} → none ≡ some a → ⊥
none-some {a} e = let z : ◌≡◌ {A = ℕ} 0 1 = cc in omega arith

some_same : {a b : ℕ} → some a ≡ some b → a ≡ b
some_same e = cc

-- one place more in front
before-next : (most : ℕ) (stands : ℕ → ℕ) (s : Step) (ss : List Step) (i : ℕ) → stands 0 + s.raw ≤ most
    → ((j : ℕ) → j < i → Over most (λ j. stands (suc j)) ss j → ⊥) → (j : ℕ) → j < suc i → Over most stands (s ∷ ss) j
    → ⊥
unfolding step_at
before-next most stands s ss i h f zero l o = omega arith
before-next most stands s ss i h f (suc j) l o = f j (omega arith) o

first_next : (most : ℕ) (stands : ℕ → ℕ) (s : Step) (ss : List Step) (i : ℕ) → stands 0 + s.raw ≤ most
    → First most (λ j. stands (suc j)) ss i → First most stands (s ∷ ss) (suc i)
unfolding step_at
first_next most stands s ss i h f = record {
  inside = omega (arith, f.inside);
  over = f.over;
  before = before-next most stands s ss i h f.before;
}

-- THEOREM: a line that is found is the line of the first place over the limit
pub over-found : (most : ℕ) (stands : ℕ → ℕ) (ss : List Step) (line : ℕ) → first_over most stands ss ≡ some line
    → (i : ℕ) × First most stands ss i × ((step_at ss i).line ≡ line)
unfolding first_over step_at
over-found most stands [] line e = absurd (none-some e)
over-found most stands (s ∷ ss) line e = go (over-found most (λ i. stands (suc i)) ss line)
    (ltb most (stands 0 + s.raw)) refl e
  where
    go : (first_over most (λ i. stands (suc i)) ss ≡ some line
        → (i : ℕ) × First most (λ i. stands (suc i)) ss i × ((step_at ss i).line ≡ line))
        → (b : Bool) → ltb most (stands 0 + s.raw) ≡ b
        → cond b (some s.line) (first_over most (λ i. stands (suc i)) ss) ≡ some line
        → (i : ℕ) × First most stands (s ∷ ss) i × ((step_at (s ∷ ss) i).line ≡ line)
    go ih true t e = (
      0,
      record { inside = omega arith; over = ltb-true most (stands 0 + s.raw) t; before = λ j l o. omega arith },
      some_same e,
    )
    go ih false t e =
        let f = ih e in
        (suc f.0, first_next most stands s ss f.0 (ltb-false most (stands 0 + s.raw) t) f.1, f.2)

-- THEOREM: where none is found, no place is over the limit
pub over_none : (most : ℕ) (stands : ℕ → ℕ) (ss : List Step) → first_over most stands ss ≡ none
    → (i : ℕ) → i < length ss → Over most stands ss i → ⊥
unfolding first_over step_at
over_none most stands [] e i l o = omega arith
over_none most stands (s ∷ ss) e i l o = go (over_none most (λ i. stands (suc i)) ss) (ltb most (stands 0 + s.raw))
    refl e i l o
  where
    go : (first_over most (λ i. stands (suc i)) ss ≡ none → (i : ℕ) → i < length ss
        → Over most (λ i. stands (suc i)) ss i → ⊥)
        → (b : Bool) → ltb most (stands 0 + s.raw) ≡ b
        → cond b (some s.line) (first_over most (λ i. stands (suc i)) ss) ≡ none
        → (i : ℕ) → i < suc (length ss) → Over most stands (s ∷ ss) i → ⊥
    go ih true t e i l o = none-some (sym e)
    go ih false t e zero l o = omega (arith, ltb-false most (stands 0 + s.raw) t)
    go ih false t e (suc i) l o = ih e i (omega arith) o

-- THEOREM: there is one first place at most
pub first_one : (most : ℕ) (stands : ℕ → ℕ) (ss : List Step) (i j : ℕ) → First most stands ss i → First most stands ss j
    → i ≡ j
first_one most stands ss i j f g = go (dec_le i j) (dec_le j i)
  where
    go : Dec (i ≤ j) → Dec (j ≤ i) → i ≡ j
    go (yes a) (yes b) = omega arith
    go (no a) b = absurd (f.before j (omega arith) g.over)
    go (yes a) (no b) = absurd (g.before i (omega arith) f.over)

-- what stands at the next place is what stands here and the size of this place
pub standing-next : (r : Routine) (ss : List Step) (i : ℕ) → i < length ss
    → standing r ss (suc i) ≡ standing r ss i + (step_at ss i).size
unfolding standing step_at
standing-next r [] i l = absurd (omega arith)
standing-next r (s ∷ ss) zero l = omega arith
standing-next r (s ∷ ss) (suc i) l =
    let h : i < length ss = omega arith in
    omega (arith, standing-next r ss i h)
