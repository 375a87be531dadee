-- What the loop stores is what a step says is held behind it, and the sizes stay. Assumes nothing.
use Rattle.rules.specs.declared.types.Op.{Op}
use Prim.Native.Nat.{ℕ, zero, suc, ◌+◌, ◌-◌, ◌≤◌, ◌<◌}
use native.Mathlib.Omega.{arith}
use mathlib.Core.Path.{◌≡◌, refl, sym, ◌∙◌, ap}
use mathlib.Core.List.{List, [], ◌∷◌, ◌++◌, append_assoc}
use lib.ListN.{length, take, drop, get_or, set, replicate, length-set, length-append, length-replicate}
use Rattle.std.proofs.lemmas.List.{take-append-drop}
use lib.Seq.{drop-cons, set-append_seam, length-take-le}
use Rattle.rules.specs.declared.types.Statement.{Statement}
use Rattle.rules.specs.declared.types.AffineMap.{AffineMap}
use Rattle.lines.specs.declared.known.Known.{Known}
use Rattle.lines.specs.declared.step.Put.{Put}
use Rattle.lines.specs.declared.step.Put.TheVariants.{Nothing, Map, Input, Stated, Let}
use Rattle.lines.specs.declared.step.Step.{Step}
use Rattle.text.specs.declared.routine.Routine.{Routine}
use Rattle.rules.specs.State.{start}
use Rattle.grammar.specs.declared.line.NameRef.{NameRef}
use Rattle.lookup.specs.Names.{listed, names_in, put}
use Rattle.lookup.specs.Coded.{written}
use Rattle.text.specs.Routine.{nothing}
use Rattle.rules.specs.Limits.{most_statements, most_entries}
use Rattle.lines.specs.Known.{Arrays, arrays, Kept, kept, Sized}
use Rattle.lines.specs.Stored.{LetsHeld}
use Rattle.lines.specs.Stored.{maps_after, table_after, arrays_after, let_statements, after}
use Rattle.lines.specs.Known.{state_in}
use Rattle.lines.specs.Added.{blank}
use Rattle.lines.specs.Lets.{nameless, put_nameless, put_let}
use Rattle.lines.specs.Given.{given_count, given_at, given_from}
use Rattle.lookup.proofs.Laws.Decoding.{written-length}
use Rattle.lines.proofs.Laws.Kept.{table-length}
use Rattle.lines.proofs.Laws.Lets.{same-last}

-- one value is stored as its name alone
pub let_one : (t : List NameRef) (at : ℕ) (x : NameRef) → put_let t at x 1 ≡ put t at x
unfolding put_nameless
let_one t at x = let here : at + 0 ≡ at = omega arith in ap (λ (n : ℕ). put t n x) here

-- ---- entries without a name

module _ (t : List NameRef) (at : ℕ) where
  -- a part of the table that is filled with them
  pub filled : (n : ℕ) → at + n ≤ length t
      → take at t ++ (replicate n nameless ++ drop (at + n) t) ≡ put_nameless t at n
  unfolding put_nameless
  filled zero h =
      let e : at + 0 ≡ at = omega arith in
      ap (λ (i : ℕ). take at t ++ drop i t) e ∙ take-append-drop at t
  filled (suc n) h =
      let front = take at t in
      let same = replicate n nameless in
      let rest = drop (at + suc n) t in
      let next : drop (at + n) t ≡ get_or t (at + n) nameless ∷ rest =
      let e : suc (at + n) ≡ at + suc n = omega arith in
      rw (← e) (drop-cons t (at + n) nameless (omega arith)) in
      let size : length (front ++ same) ≡ at + n = omega (
        arith,
        length-append front same,
        length-take-le at t (omega arith),
        length-replicate n nameless,
      ) in
      let before : put_nameless t at n ≡ (front ++ same) ++ get_or t (at + n) nameless ∷ rest =
      sym (filled n (omega arith)) ∙ ap (λ (l : List NameRef). front ++ (same ++ l)) next
      ∙ sym (append_assoc front same (get_or t (at + n) nameless ∷ rest)) in
      ap (λ (l : List NameRef). front ++ (l ++ rest)) (same-last n nameless)
      ∙ ap (λ (l : List NameRef). front ++ l) (append_assoc same (nameless ∷ []) rest)
      ∙ sym (append_assoc front same (nameless ∷ rest))
      ∙ sym (set-append_seam (front ++ same) (get_or t (at + n) nameless) rest nameless)
      ∙ (λ i. set (sym before i) (size i) nameless)

-- ---- the statements that a record gives, stored one at a time

given-next : (ss : List Statement) (codes : List Op) (p : Put) (at i m : ℕ) (st : Statement) → st ≡ given_at codes p i
    → written ss (at + i) (given_from codes p i (suc m))
    ≡ written (set ss (at + i) st) (at + (i + 1)) (given_from codes p (i + 1) m)
unfolding written given_from
given-next ss codes p at i m st e =
    let a : at + i + 1 ≡ at + (i + 1) = omega arith in
    λ j. written (set ss (at + i) (sym e j)) (a j) (given_from codes p (i + 1) m)

given-done : (ss : List Statement) (codes : List Op) (p : Put) (at i m : ℕ) → m ≡ 0
    → written ss at (given_from codes p i m) ≡ ss
unfolding written given_from
given-done ss codes p at i m e = ap (λ (l : ℕ). written ss at (given_from codes p i l)) e

-- the statements behind the first i of n stores: the rest stored behind them makes all of them
abbrev pub Storing : List Statement → List Op → Put → ℕ → ℕ → List Statement → ℕ → Type 0
Storing ss₀ codes p at n ss i =
    (length ss ≡ most_statements)
    × (written ss (at + i) (given_from codes p i (n - i)) ≡ written ss₀ at (given_from codes p 0 n))

module _ (ss₀ : List Statement) (codes : List Op) (p : Put) (at n : ℕ) where
  module _ (ss : List Statement) (i : ℕ) (I : Storing ss₀ codes p at n ss i) where
    -- one more
    pub storing_more : (st : Statement) → i < n → st ≡ given_at codes p i
        → Storing ss₀ codes p at n (set ss (at + i) st) (i + 1)
    storing_more st h e =
        let m = n - (i + 1) in
        let rest : n - i ≡ suc m = omega (arith, h) in (
          length-set ss (at + i) st ∙ I.0,
          sym (given-next ss codes p at i m st e)
              ∙ ap (λ (l : ℕ). written ss (at + i) (given_from codes p i l)) (sym rest) ∙ I.1,
        )

    -- all of them
    pub storing_done : n ≤ i → n ≡ given_count p → ss ≡ written ss₀ at (given_from codes p 0 (given_count p))
    storing_done h e =
        let left : n - i ≡ 0 = omega (arith, h) in
        sym (given-done ss codes p (at + i) i (n - i) left) ∙ I.1
        ∙ ap (λ (m : ℕ). written ss₀ at (given_from codes p 0 m)) e

-- the arrays behind the stores are those that the record leads to
stores : (s : List ℕ) (t : List NameRef) (codes : List Op) (a : Arrays) (k : Known) (p : Put) → LetsHeld s t codes k p
    → length codes ≡ most_statements
    → arrays (maps_after a.maps k p)
    (written a.statements (k.origin + k.masked) (given_from codes p 0 (given_count p)))
    ≡ arrays_after s t a k p
unfolding written given_from
stores s t codes a k Nothing l z = refl
stores s t codes a k (Map x f) l z = refl
stores s t codes a k (Input x) l z = refl
stores s t codes a k (Stated x st) l z = refl
stores s t codes a k (Let x f) l z =
    ap (λ (ss : List Statement). arrays a.maps (written a.statements (k.origin + k.masked) ss)) (l z)

module _ (s : List ℕ) (h : Kept) (r : Step) where
  -- the loop's stores lead to what the step says
  pub kept-after : (codes : List Op) {t : List NameRef} {fs : List AffineMap} {ss : List Statement}
      → LetsHeld s h.names codes h.known r.put → length codes ≡ most_statements
      → fs ≡ maps_after h.arrays.maps h.known r.put
      → t ≡ table_after h.names h.known r.put
      → ss ≡ written h.arrays.statements (h.known.origin + h.known.masked)
      (given_from codes r.put 0 (given_count r.put))
      → kept t r.held.known (arrays fs ss) ≡ after s h r.held.known r.put
  unfolding after
  kept-after codes l z q w m =
      (λ n. kept (w n) r.held.known (arrays (q n) (m n)))
      ∙ ap (kept (table_after h.names h.known r.put) r.held.known)
      (stores s h.names codes h.arrays h.known r.put l z)

  maps-size : (p : Put)
      → length (arrays_after s h.names h.arrays h.known p).maps ≡ length h.arrays.maps
  maps-size Nothing = refl
  maps-size (Map x f) = length-set h.arrays.maps h.known.mapped f
  maps-size (Input x) = refl
  maps-size (Stated x st) = refl
  maps-size (Let x f) = refl

  statements-size : (p : Put)
      → length (arrays_after s h.names h.arrays h.known p).statements ≡ length h.arrays.statements
  statements-size Nothing = refl
  statements-size (Map x f) = refl
  statements-size (Input x) = refl
  statements-size (Stated x st) = length-set h.arrays.statements (h.known.origin + h.known.masked) st
  statements-size (Let x f) =
      written-length h.arrays.statements (h.known.origin + h.known.masked) (let_statements s h.names h.known f)

  -- the sizes stay
  pub sized-after : Sized h → Sized (after s h r.held.known r.put)
  unfolding after
  sized-after Z =
      record {
        names = table-length h.names h.known r.put ∙ Z.names;
        maps = maps-size r.put ∙ Z.maps;
        statements = statements-size r.put ∙ Z.statements;
      }

-- ---- before the first line

module _ (t : List NameRef) (k : Known) (q : Routine) where
  -- the sizes of what the loop begins with
  pub blank-sized : length t ≡ most_entries → q ≡ nothing → Sized (kept t k (arrays q.maps q.statements))
  unfolding nothing
  blank-sized l e =
      record {
        names = l;
        maps = ap (λ (r : Routine). length r.maps) e;
        statements = ap (λ (r : Routine). length r.statements) e;
      }

-- what the loop begins with stands for the start
none-means : (s : List ℕ) (t : List NameRef) (q : Routine)
    → state_in s (kept t blank (arrays q.maps q.statements)) ≡ start
unfolding state_in blank start names_in listed
none-means s t q = refl

-- the same, as the code makes it
pub blank-means : (s : List ℕ) (t : List NameRef) (k : Known) (q : Routine) → k ≡ blank
    → state_in s (kept t k (arrays q.maps q.statements)) ≡ start
blank-means s t k q e =
    ap (λ (j : Known). state_in s (kept t j (arrays q.maps q.statements))) e ∙ none-means s t q
