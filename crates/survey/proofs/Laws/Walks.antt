-- One statement more of a walk: the invariant is kept, and the limit is tested as the rules say.
-- Assumes nothing.
use mathlib.Core.Path.{◌≡◌, refl, sym, ap, ◌∙◌, subst}
use Prim.Native.Nat.{ℕ, ◌+◌, ◌*◌, ◌-◌, ◌≤◌, ◌<◌}
use native.Mathlib.Omega.{arith}
use native.Mathlib.Nat.{mul-le-mul_right}
use Rattle.std.proofs.Common.{Ok, Err}
use mathlib.Core.List.{List, [], ◌∷◌, ◌++◌, append_assoc}
use lib.ListN.{length, take, drop, get_or}
use lib.Seq.{drop-append-le, take-append-le, get_or-take, get_or-drop}
use Rattle.poly.specs.Poly.{Poly}
use Rattle.buffer.proofs.Lent.Reads.{read_length}
use Rattle.rules.specs.declared.types.Op.{Op}
use Rattle.rules.specs.declared.types.Statement.{Statement}
use Rattle.rules.specs.declared.types.AffineMap.{AffineMap}
use Rattle.verdict.specs.Meaning.{given, values}
use Rattle.verdict.specs.Instances.{polynomials}
use Rattle.values.specs.declared.shelf.Shelf.{Shelf}
use Rattle.values.specs.declared.source.Scope.{Scope}
use Rattle.values.specs.declared.found.Found.{Found}
use Rattle.values.specs.Shelf.{stored, value_of, shelved, Laid}
use Rattle.values.specs.Source.{beginning, variables_of, visible, reach, Narrow}
use Rattle.values.specs.Raw.{most_standing, raw_in, Inside}
use Rattle.values.specs.Found.{found_value, found_size, FoundFor}
use Rattle.values.specs.Value.{FormAsked}
use Rattle.survey.specs.Walk.{over_in, top_in, blank, part, WalkAsked, Holds, Walked}
use Rattle.verdict.proofs.Laws.Lists.{length-tabulate}
use Rattle.values.proofs.Laws.Shelves.{shelved-sound, stored_more}
use Rattle.survey.proofs.Laws.Steps.{over-here, over-next, over_none, given-small}
use Rattle.verdict.proofs.Laws.Parts.{part-first}

-- ---- the values that are visible, one more

module _ (w : ℕ) (s : Scope) (b b' : List ℕ) (d e : Shelf) (p : Poly) (base : s.base ≤ d.count)
    (h : stored w b' e ≡ stored w b d ++ p ∷ []) where
  stored-count : length (stored w b d) ≡ d.count
  unfolding stored
  stored-count = length-tabulate d.count (value_of w b d)

  reach-more : reach w b' e s ≡ reach w b d s ++ p ∷ []
  unfolding visible
  reach-more =
      ap (λ (vs : List Poly). beginning (w - 1) s ++ drop s.base vs) h
      ∙ ap (λ (vs : List Poly). beginning (w - 1) s ++ vs)
      (drop-append-le s.base (stored w b d) (p ∷ []) (omega (arith, stored-count)))
      ∙ sym (append_assoc (beginning (w - 1) s) (drop s.base (stored w b d)) (p ∷ []))

  kept_more : take s.base (stored w b' e) ≡ take s.base (stored w b d)
  kept_more = ap (take s.base) h ∙ take-append-le s.base (stored w b d) (p ∷ []) (omega (arith, stored-count))

-- ---- a walk

-- a statement of the part from..to
pub part-at : (l : List Statement) (from to k : ℕ) → k < to - from
    → get_or (part l from to) k blank ≡ get_or l (from + k) blank
part-at l from to k h = get_or-take (to - from) (drop from l) k blank h ∙ get_or-drop from l k blank

module _ {m : ℕ} {lists : List (List ℕ)} {constants : List ℕ} {maps : List AffineMap} {statements : List Statement}
    {from to : ℕ}
    {s : Scope} {d₀ : Shelf} {left₀ right₀ : List ℕ} {w most : ℕ} (long : length statements ≡ 256)
    (N : Narrow s d₀) (Q : WalkAsked m lists constants maps statements from to s d₀ left₀ right₀ w most) where
  abbrev Now : ℕ → List ℕ → Shelf → Type 0
  Now i left d = Holds m maps statements from to s d₀ left₀ w most i left d

  -- no statement is walked yet
  pub holds-start : Now from left₀ d₀
  holds-start = record {
    sound = N.sound;
    size = refl;
    begun = omega arith;
    within = Q.ordered;
    count = omega arith;
    top = Q.top;
    kept = refl;
    rest = refl;
    over = refl;
    stands = refl;
  }

  -- the statement t at place i
  module _ {i : ℕ} {left : List ℕ} {d : Shelf} (H : Now i left d) (l : i < to) {t : Statement}
      (at : t ≡ get_or statements i blank) where
    abbrev op : Op
    op = t.op

    reads : Inside s.drawn op
    reads = rw at (Q.reads i H.begun l)

    abbrev raw : ℕ
    raw = raw_in m (w - 1) maps (reach w left d s) op

    -- what it may read
    pub walk-narrow : Narrow s d
    walk-narrow = record {
      sound = H.sound;
      base = omega (arith, N.base, H.count);
      few = N.few;
    }

    here : part statements i to ≡ t ∷ part statements (i + 1) to
    here = rw at (part-first statements i to blank l (omega (arith, Q.inside)))

    -- over the limit
    pub walk-over : {f : Found} {k : ℕ} → FoundFor s d op f → k ≡ found_size lists constants f → most - d.top < k
        → Walked m maps statements from to s d₀ left₀ w most left
        (Err t.line)
    walk-over z e h = record {
      decided =
          sym (over-here most m (w - 1) maps (variables_of (w - 1) s) (reach w left d s) d.top
          t (part statements (i + 1) to)
          (omega (arith, e, z.sized m w lists constants left maps Q.tabled, H.top)))
          ∙ ap (over_in most m (w - 1) maps (variables_of (w - 1) s) (reach w left d s) d.top) (sym here)
          ∙ H.over;
      finished = λ d e. cc;
    }

    -- room for the statement
    module _ {f : Found} {k : ℕ} (z : FoundFor s d op f) (e : k ≡ found_size lists constants f)
        (fits : k ≤ most - d.top) where
      same : found_size lists constants f ≡ raw
      same = z.sized m w lists constants left maps Q.tabled

      raw-fits : d.top + found_size lists constants f ≤ most
      raw-fits = omega (arith, e, H.top)

      -- its value has the room that it asks
      pub form-asked : (right : List ℕ) → length right ≡ length right₀
          → FormAsked m lists constants f left d.top right w
      form-asked right g = record {
        work = record {
          modulus = Q.work.modulus;
          some = Q.work.some;
          most = Q.work.most;
          spare = omega (arith, Q.work.spare);
          same = omega (arith, Q.work.same, H.size);
        };
        fits = z.fits w Q.wide Q.drawn;
        room = omega (arith, mul-le-mul_right w raw-fits, Q.room, H.size);
      }

      module _ {left' : List ℕ} {j : ℕ}
          (F : Laid w left left' d.top j (found_value m w lists constants left f)) where
        abbrev value : Poly
        value = given (polynomials m (w - 1)) maps (variables_of (w - 1) s) (reach w left d s) op

        laid : Laid w left left' d.top j value
        laid = subst (Laid w left left' d.top j) (z.means m w lists constants left maps Q.tabled) F

        value-length : length value ≡ j
        value-length = ap length (sym laid.terms) ∙ read_length (w - 1) left' (d.top * w) j

        below : d.count < 256
        below = omega (arith, H.count, Q.count, H.begun)

        more : stored w left' (shelved d j) ≡ stored w left d ++ value ∷ []
        more = stored_more d j H.sound below w left left' value Q.work.some laid

        small : d.top + j ≤ most
        small =
            omega (
              arith,
              value-length,
              raw-fits,
              same,
              given-small m (w - 1) Q.work.modulus maps s (reach w left d s) op reads,
            )

        -- the directory has room for it
        pub shelf_room : (d.count < 256) × (d.top + j ≤ most_standing)
        shelf_room = (below, omega (arith, small, Q.bounded))

        -- what may be read then
        reached : reach w left' (shelved d j) s ≡ reach w left d s ++ value ∷ []
        reached = reach-more w s left left' d (shelved d j) value walk-narrow.base more

        -- the statements behind it
        abbrev behind : List Statement
        behind = part statements (i + 1) to

        rest_more : values (polynomials m (w - 1)) maps (variables_of (w - 1) s) (reach w left' (shelved d j) s) behind
            ≡ values (polynomials m (w - 1)) maps (variables_of (w - 1) s) (reach w left₀ d₀ s) (part statements from to)
        unfolding values
        rest_more =
            ap (λ (vs : List Poly). values (polynomials m (w - 1)) maps (variables_of (w - 1) s) vs behind) reached
            ∙ ap (values (polynomials m (w - 1)) maps (variables_of (w - 1) s) (reach w left d s)) (sym here)
            ∙ H.rest

        over-more : over_in most m (w - 1) maps (variables_of (w - 1) s) (reach w left' (shelved d j) s)
            (d.top + j) behind
            ≡ over_in most m (w - 1) maps (variables_of (w - 1) s) (reach w left₀ d₀ s) d₀.top
            (part statements from to)
        over-more =
            ap (λ (vs : List Poly). over_in most m (w - 1) maps (variables_of (w - 1) s) vs (d.top + j) behind) reached
            ∙ over-next most m (w - 1) maps (variables_of (w - 1) s) (reach w left d s) d.top
            t behind value j refl value-length (omega (arith, raw-fits, same))
            ∙ ap (over_in most m (w - 1) maps (variables_of (w - 1) s) (reach w left d s) d.top) (sym here)
            ∙ H.over

        stands-more : top_in m (w - 1) maps (variables_of (w - 1) s) (reach w left' (shelved d j) s) (d.top + j) behind
            ≡ top_in m (w - 1) maps (variables_of (w - 1) s) (reach w left₀ d₀ s) d₀.top (part statements from to)
        unfolding top_in
        stands-more =
            ap (λ (vs : List Poly). top_in m (w - 1) maps (variables_of (w - 1) s) vs (d.top + j) behind) reached
            ∙ ap (λ (u : ℕ). top_in m (w - 1) maps (variables_of (w - 1) s) (reach w left d s ++ value ∷ [])
            (d.top + u) behind)
            (sym value-length)
            ∙ ap (top_in m (w - 1) maps (variables_of (w - 1) s) (reach w left d s) d.top) (sym here)
            ∙ H.stands

        -- one statement more is walked
        pub holds_more : Now (i + 1) left' (shelved d j)
        unfolding shelved
        holds_more = record {
          sound = shelved-sound d j H.sound below;
          size = laid.size ∙ H.size;
          begun = omega (arith, H.begun);
          within = omega arith;
          count = omega (arith, H.count, H.begun);
          top = small;
          kept = kept_more w s left left' d (shelved d j) value walk-narrow.base more ∙ H.kept;
          rest = rest_more;
          over = over-more;
          stands = stands-more;
        }

  -- all statements are walked
  pub walk-done : (i : ℕ) (left : List ℕ) (d : Shelf) → Now i left d → to ≤ i
      → Walked m maps statements from to s d₀ left₀ w most left (Ok d)
  walk-done i left d H n =
      let e : i ≡ to = omega (arith, H.within) in
      let G : Now to left d = subst (λ (x : ℕ). Now x left d) e H in
      record {
        decided = sym (over_none most m (w - 1) maps (variables_of (w - 1) s) (reach w left d s) d.top statements to)
            ∙ G.over;
        finished = λ d' h. subst (Now to left) (let f : d ≡ d' = cc in f) G;
      }
