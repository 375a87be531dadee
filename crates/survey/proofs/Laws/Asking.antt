-- What the two walks ask holds of the routine of every accepted text: each map that is applied has a place, each
-- variable that is drawn is one of the block's, and the buffers have room.
-- Assumes nothing.
use mathlib.Core.Path.{◌≡◌, sym, ap, ◌∙◌, subst}
use Prim.Native.Nat.{ℕ, zero, suc, ◌+◌, ◌*◌, ◌-◌, ◌≤◌, ◌<◌}
use native.Mathlib.Omega.{arith}
use native.Mathlib.Nat.{mul-le-mul_left, mul-one}
use mathlib.Core.List.{List, [], ◌∷◌}
use lib.ListN.{length, take, drop, get_or, length-take}
use lib.Seq.{get_or-take, get_or-drop}
use Rattle.field.specs.Field.Modulus.{aes}
use Rattle.rules.specs.declared.types.Op.{Op}
use Rattle.rules.specs.declared.types.Op.TheVariants.{Set, Xor, Mul, App, Rand}
use Rattle.rules.specs.declared.types.Statement.{Statement}
use Rattle.text.specs.declared.routine.Routine as code
use Rattle.text.specs.Routine.{maps_of, origin_of, masked_of, routine_of}
use Rattle.rules.specs.Ranged.{ReadsOp, ReadsAbove}
use Rattle.values.specs.declared.shelf.Shelf.{Shelf}
use Rattle.values.specs.declared.source.Scope.{Scope}
use Rattle.std.proofs.Common.{Result}
use Rattle.values.specs.Shelf.{bare, Sound}
use Rattle.values.specs.Source.{Narrow}
use Rattle.values.specs.Raw.{most_standing, Inside}
use Rattle.values.specs.Value.{Workable}
use Rattle.survey.specs.Walk.{blank, WalkAsked, Walked}
use Rattle.survey.specs.Table.{Listed, Constants}
use Rattle.text.specs.Ready.{Ready}
use Rattle.survey.specs.Survey.{modulus, term_bytes, origin_scope, masked_scope, Lent, BlockAsked, Begun}
use Rattle.survey.specs.Survey.{OriginWalked, MaskedWalked}
use Rattle.survey.proofs.Laws.Filling.{tabled}

-- ---- the maps that are applied, and the variables that are drawn

inside-op : (maps v at : ℕ) → maps ≤ 8 → (o : Op) → ReadsOp maps v at o → Inside v o
inside-op maps v at l (Set a) h = tt
inside-op maps v at l (Xor a b) h = tt
inside-op maps v at l (Mul a b) h = tt
inside-op maps v at l (App f a) h = omega (arith, h.0)
inside-op maps v at l (Rand x) h = h

-- each statement of a block, and what stands past its end
inside-at : (maps v at : ℕ) → maps ≤ 8 → (ss : List Statement) → ReadsAbove maps v at ss → (i : ℕ)
    → Inside v (get_or ss i blank).op
inside-at maps v at l [] h i = tt
inside-at maps v at l (s ∷ ss) h zero = inside-op maps v at l s.op h.0
inside-at maps v at l (s ∷ ss) h (suc i) = inside-at maps v (suc at) l ss h.1 i

module _ {r : code.Routine} (Q : Ready r) where
  few-maps : length (maps_of r) ≤ 8
  unfolding maps_of
  few-maps = omega (arith, length-take r.mapped r.maps, Q.counted.maps)

  -- the origin block draws no variable
  origin-inside : (i : ℕ) → i < r.origin → Inside 0 (get_or r.statements i blank).op
  unfolding routine_of origin_of
  origin-inside i h =
      subst (λ (s : Statement). Inside 0 s.op) (get_or-take r.origin r.statements i blank h)
      (inside-at (length (maps_of r)) 0 r.inputs few-maps (origin_of r) Q.ranged.origin i)

  -- the masked block may draw every variable
  masked-inside : (i : ℕ) → r.origin ≤ i → i < r.origin + r.masked
      → Inside r.variables (get_or r.statements i blank).op
  unfolding routine_of masked_of
  masked-inside i l h =
      let j : ℕ = i - r.origin in
      let e : r.origin + j ≡ i = omega arith in
      subst (λ (s : Statement). Inside r.variables s.op)
      (get_or-take r.masked (drop r.origin r.statements) j blank (omega arith)
      ∙ get_or-drop r.origin r.statements j blank ∙ ap (λ (x : ℕ). get_or r.statements x blank) e)
      (inside-at (length (maps_of r)) r.variables (r.inputs * r.shares) few-maps (masked_of r) Q.ranged.masked j)

-- ---- room

-- the first work buffer has room for the most terms
pub lent-room : (r : code.Routine) (left right : List ℕ) → Ready r → Lent left right
    → most_standing * term_bytes r ≤ length left
lent-room r left right Q l =
    let h : r.variables + 1 ≤ 17 = omega (arith, Q.counted.room) in
    omega (arith, mul-le-mul_left most_standing h, l.room)

-- the buffers have the room that a walk asks
workable : {r : code.Routine} {left right : List ℕ} → Ready r → Lent left right
    → Workable modulus left right (term_bytes r)
workable {r} {left} {right} Q l = record {
  modulus = aes;
  some = omega arith;
  most = omega (arith, Q.counted.room);
  spare = omega (arith, lent-room r left right Q l, l.same);
  same = omega (arith, l.same);
}

-- ---- what each block may read

module _ {r : code.Routine} (Q : Ready r) {s : Scope} {d : Shelf} (o : Sound d) where
  -- the scope of the origin block is within every directory
  pub origin-narrow : s ≡ origin_scope r → Narrow s d
  origin-narrow e = subst (λ (x : Scope). Narrow x d) (sym e) record {
    sound = o;
    base = omega arith;
    few = omega (arith, Q.counted.fits, Q.counted.room);
  }

  -- that of the masked block is within one that holds the origin block
  pub masked-narrow : s ≡ masked_scope r → r.origin ≤ d.count → Narrow s d
  masked-narrow e h = subst (λ (x : Scope). Narrow x d) (sym e) record {
    sound = o;
    base = h;
    few = omega (arith, mul-one (r.inputs * r.shares), Q.counted.fits, Q.counted.room);
  }

-- ---- the two walks

module _ {r : code.Routine} {lists : List (List ℕ)} {constants left right : List ℕ}
    (A : BlockAsked r lists constants left right) where
  origin_here : WalkAsked modulus lists constants (maps_of r) r.statements 0 r.origin
      (origin_scope r) bare left right
      (term_bytes r) most_standing
  unfolding bare
  origin_here = record {
    work = workable A.ready A.lent;
    wide = omega (arith, A.ready.counted.fits);
    drawn = omega arith;
    tabled = A.tabled;
    ordered = omega arith;
    inside = omega (arith, A.ready.counted.statements);
    count = omega (arith, A.ready.counted.statements);
    reads = λ i l h. origin-inside A.ready i h;
    bounded = omega arith;
    top = omega arith;
    room = lent-room r left right A.ready A.lent;
  }

  masked-here : (d : Shelf) → Begun r d → WalkAsked modulus lists constants (maps_of r) r.statements r.origin
      (r.origin + r.masked) (masked_scope r) d left right (term_bytes r) most_standing
  masked-here d B = record {
    work = workable A.ready A.lent;
    wide = omega (arith, A.ready.counted.fits, mul-one (r.inputs * r.shares));
    drawn = omega arith;
    tabled = A.tabled;
    ordered = omega arith;
    inside = A.ready.counted.statements;
    count = omega (arith, B.count, A.ready.counted.statements);
    reads = λ i l h. masked-inside A.ready i l h;
    bounded = omega arith;
    top = B.top;
    room = lent-room r left right A.ready A.lent;
  }

  -- the same, where the scope and the directory come of a call
  pub origin-asked : (s : Scope) (d : Shelf) → s ≡ origin_scope r → d ≡ bare
      → WalkAsked modulus lists constants (maps_of r) r.statements 0 r.origin s d left right
      (term_bytes r) most_standing
  origin-asked s d e f =
      subst (λ (x : Scope). WalkAsked modulus lists constants (maps_of r) r.statements 0 r.origin x d left right
      (term_bytes r) most_standing) (sym e)
      (subst (λ (x : Shelf). WalkAsked modulus lists constants (maps_of r) r.statements 0 r.origin
      (origin_scope r) x left right (term_bytes r) most_standing) (sym f) origin_here)

  -- the walk over the masked block is asked what holds
  pub masked-asked : (s : Scope) (d : Shelf) → s ≡ masked_scope r → Begun r d
      → WalkAsked modulus lists constants (maps_of r) r.statements r.origin (r.origin + r.masked) s d left right
      (term_bytes r) most_standing
  masked-asked s d e B =
      subst (λ (x : Scope).
      WalkAsked modulus lists constants (maps_of r) r.statements r.origin (r.origin + r.masked) x d left right
      (term_bytes r) most_standing)
      (sym e) (masked-here d B)

-- ---- what they leave, by the scope of each block

module _ (r : code.Routine) {left left' : List ℕ} {q : Result Shelf ℕ} {s : Scope} {d : Shelf} where
  -- what the first walk leaves
  pub origin-walked : s ≡ origin_scope r → d ≡ bare
      → Walked modulus (maps_of r) r.statements 0 r.origin s d left (term_bytes r) most_standing left' q
      → OriginWalked r left left' q
  origin-walked e f h =
      subst (λ (x : Shelf). Walked modulus (maps_of r) r.statements 0 r.origin (origin_scope r) x left
      (term_bytes r) most_standing left' q) f
      (subst (λ (x : Scope). Walked modulus (maps_of r) r.statements 0 r.origin x d left
      (term_bytes r) most_standing left' q) e h)

  -- what the second walk leaves
  pub masked-walked : s ≡ masked_scope r
      → Walked modulus (maps_of r) r.statements r.origin (r.origin + r.masked) s d left
      (term_bytes r) most_standing left' q → MaskedWalked r d left left' q
  masked-walked e h =
      subst (λ (x : Scope). Walked modulus (maps_of r) r.statements r.origin (r.origin + r.masked) x d left
      (term_bytes r) most_standing left' q) e h

-- ---- the tables and the buffers

-- the tables hold the routine's maps
pub block-asked : (r : code.Routine) (lists : List (List ℕ)) (constants left right : List ℕ) → Ready r → Lent left right
    → Listed modulus (take r.mapped r.maps) lists 8 → Constants (take r.mapped r.maps) constants 8
    → BlockAsked r lists constants left right
unfolding maps_of
block-asked r lists constants left right Q l a b =
    record { ready = Q; lent = l; tabled = tabled modulus (maps_of r) lists constants a b }

-- the buffers keep their lengths
pub lent-kept : (left right left' right' : List ℕ) → length left' ≡ length left → length right' ≡ length right
    → Lent left right
    → Lent left' right'
lent-kept left right left' right' a b l = record { room = omega (arith, l.room); same = omega (arith, l.same) }
