-- The first part of an operation is looked up, then the second behind its comma, and the operation is written behind
-- theirs. Assumes nothing.
use Rattle.lookup.specs.Compiled.{set_in, maps_in, Room}
use Rattle.lookup.proofs.Laws.Begun.{Begun, begun_as, next-inside, next-room, last-room, last-inside}
use Rattle.lookup.proofs.Laws.Begun.{pair-compiled}
use Rattle.lookup.proofs.Laws.Compiling.{two-room, two-begun, image-named, image-begun}
use Rattle.lookup.proofs.Laws.Compiling.{operand-there, operand-compiled, unknown-none}
use Rattle.std.proofs.Common.{rules}
use Rattle.std.specs.Prelude.{Option, Some, IsSome}
use Rattle.tokens.specs.Token.{◌>>=◌}
use Rattle.grammar.proofs.Laws.Paired.{mark_two, mark_image}
use Rattle.grammar.proofs.Laws.Measured.{mark_within}
use native.Mathlib.Omega.{arith}
use mathlib.Core.Path.{◌≡◌, refl, ap, sym, ◌∙◌, subst}
use mathlib.Core.List.{[]}
use lib.ListN.{length, drop, set}
use Rattle.grammar.specs.Formula.{parsed}
use Rattle.rules.specs.declared.types.Operand.TheVariants.{Byte}
use mathlib.Core.Bool.{false}
use Rattle.lookup.specs.Compiled.{compiled_of}
use Prim.Native.Nat.{ℕ, ◌-◌, ◌<◌, ◌≤◌}
use Rattle.lookup.proofs.compile.+compile.Goals as goal
use Rattle.lookup.proofs.compile.+compile.Goals.{In-Two, In-Image, Joined-o, in-Two, in-Image}

-- the first part was looked up
begun : (t : ℕ) (c : Joined-o t)
    → let a = c.args in
    Begun (set_in a.w) (maps_in a.w) a.w.base a.at a.done
    a.w.field.now a.out.now c.match-o.out c.match-o.first c.match-o.o
begun t c =
    let a = c.args in
    let mark = c.find_mark-mark.result in
    let marked = c.find_mark-mark.ensures in
    let known = c.operation_at-o.ensures in
    let ms = set_in a.w in
    let maps = maps_in a.w in
    let L : a.at ≤ length a.w.field.now = c.requires.1 in
    let R : Room a.done (parsed (drop a.at a.w.field.now)) = c.requires.2 in
    elim c.match-o.branch [
      | in-Two w ↦ begun_as w.out-is w.o-is w.first-is
          (two-begun ms maps a.w.base a.at a.done mark a.w.field.now a.out.now _ _ L marked R _
          (sym known ∙ w.in-Two.is) w.compile-first.ensures)
      | in-Image w ↦ begun_as w.out-is (w.o-is ∙ w.in-Image.is) w.first-is
          (image-begun ms maps a.w.base a.at a.done mark a.w.field.now a.out.now _ _ L marked R
          (sym known ∙ w.in-Image.is)
          (mark_image a.w.field.now a.at mark L marked (sym known ∙ w.in-Image.is))
          (let e : w.find_map.result ≡ Some w.unwrap-first.result = search rules in sym e ∙ w.find_map.ensures) refl)
    ]

-- what follows something that there is, is there
there : {A B : Type 0} (f : A → B) {o : Option A} (a : A) → o ≡ Some a → {r : Option B}
    → r ≡ (o >>= λ x. Some (f x)) → IsSome r
there f a e q = subst IsSome (sym (q ∙ ap (λ o. o >>= λ x. Some (f x)) e)) refl

-- the ( of an operation on two formulas stands in the field
two-inside : (t : ℕ) (c : In-Two t) → c.find_mark-mark.result < length c.args.w.field.now
two-inside t c =
    mark_two c.args.w.field.now c.args.at c.find_mark-mark.result c.requires.1
    c.find_mark-mark.ensures (sym c.operation_at-o.ensures ∙ c.in-Two.is)

-- the ( of an image stands in the field
image-inside : (t : ℕ) (c : In-Image t) → c.find_mark-mark.result < length c.args.w.field.now
image-inside t c =
    mark_image c.args.w.field.now c.args.at c.find_mark-mark.result c.requires.1
    c.find_mark-mark.ensures (sym c.operation_at-o.ensures ∙ c.in-Image.is)

pub overflow_add-mark : goal.overflow_add-mark
overflow_add-mark t c = omega (arith, two-inside t (goal.at.overflow_add-mark t c).In-Two)

pub compile-first-requires : goal.compile-first-requires
compile-first-requires t c =
    let a = c.args in
    let ms = set_in a.w in
    let maps = maps_in a.w in
    let at : length a.w.field.now - a.at ≡ t = c.decreases in
    let mark = c.find_mark-mark.ensures in
    let inside = two-inside t (goal.at.compile-first-requires t c).In-Two in (
      omega arith,
      (
        c.requires.0,
        omega arith,
        two-room ms maps a.w.base a.at a.done c.find_mark-mark.result a.w.field.now [] []
            (compiled_of 0 false (Byte 0) 0) c.requires.1 mark c.requires.2 _
            (sym c.operation_at-o.ensures ∙ c.in-Two.is),
      ),
    )

pub overflow_add-mark-in-Image : goal.overflow_add-mark-in-Image
overflow_add-mark-in-Image t c = omega (arith, image-inside t (goal.at.overflow_add-mark-in-Image t c).In-Image)

pub find_map-requires : goal.find_map-requires
find_map-requires t c =
    (c.requires.0, omega (arith, image-inside t (goal.at.find_map-requires t c).In-Image))

pub unreachable-requires : goal.unreachable-requires
unreachable-requires t c =
    let a = c.args in
    unknown-none (set_in a.w) (maps_in a.w) a.w.base
    a.at a.done c.find_mark-mark.result a.w.field.now [] [] (compiled_of 0 false (Byte 0) 0) c.requires.1
    c.find_mark-mark.ensures c.requires.2 (sym c.operation_at-o.ensures ∙ c.in-Unknown.is)

pub find_operand-requires : goal.find_operand-requires
find_operand-requires t c =
    let mark = c.find_mark-mark.ensures in (
      c.requires.0,
      omega (arith, mark),
      mark_within c.args.w.field.now c.args.at c.find_mark-mark.result c.requires.1 mark,
    )

pub unwrap-first-requires : goal.unwrap-first-requires
unwrap-first-requires t c =
    let a = c.args in
    let n = image-named (set_in a.w) (maps_in a.w) a.w.base
    a.at a.done c.find_mark-mark.result a.w.field.now [] [] (compiled_of 0 false (Byte 0) 0) c.requires.1
    c.find_mark-mark.ensures c.requires.2 (sym c.operation_at-o.ensures ∙ c.in-Image.is) in
    there _ n.0 n.1 c.find_map.ensures

pub unwrap-requires : goal.unwrap-requires
unwrap-requires t c =
    let a = c.args in
    let n = operand-there (set_in a.w) (maps_in a.w) a.w.base
    a.at a.done c.find_mark-mark.result a.w.field.now [] [] (compiled_of 0 false (Byte 0) 0) c.requires.1
    c.find_mark-mark.ensures c.requires.2 (sym c.operation_at-o.ensures ∙ c.in-Operand.is) in
    there _ n.0 n.1 c.find_operand.ensures

pub returns-in-Operand : goal.returns-in-Operand
returns-in-Operand t c =
    let a = c.args in
    operand-compiled (set_in a.w) (maps_in a.w) a.w.base a.at
    a.done c.find_mark-mark.result a.w.field.now a.out.now _ _ c.requires.1
    c.find_mark-mark.ensures c.requires.2
    (sym c.operation_at-o.ensures ∙ c.in-Operand.is)
    (let e : c.find_operand.result ≡ Some c.unwrap.result = search rules in sym e ∙ c.find_operand.ensures) refl

pub overflow_add-first : goal.overflow_add-first
overflow_add-first t c =
    omega (arith, next-inside _ _ _ _ _ _ _ _ _ _ (begun t (goal.at.overflow_add-first t c).Joined-o))

pub compile-y-requires : goal.compile-y-requires
compile-y-requires t c =
    let at : length c.args.w.field.now - c.args.at ≡ t = c.decreases in
    let B = begun t (goal.at.compile-y-requires t c).Joined-o in
    let inside = next-inside _ _ _ _ _ _ _ _ _ _ B in
    let from = B.from in
    (omega arith, (c.requires.0, inside, next-room _ _ _ _ _ _ _ _ _ _ B))

pub overflow_add-y : goal.overflow_add-y
overflow_add-y t c =
    let size = c.ranges.w.0 in
    let inside = c.requires.0.inside in
    omega (
      arith,
      size,
      inside,
      last-inside _ _ _ _ _ _ _ _ _ _ (begun t (goal.at.overflow_add-y t c).Joined-o) _ c.compile-y.result
          c.compile-y.ensures,
    )

pub overflow_add-w : goal.overflow_add-w
overflow_add-w t c =
    let room = last-room _ _ _ _ _ _ _ _ _ _ (begun t (goal.at.overflow_add-w t c).Joined-o) _
    c.compile-y.result c.compile-y.ensures in
    omega (arith, room, c.requires.0.based)

pub overflow_add-y-2 : goal.overflow_add-y-2
overflow_add-y-2 t c =
    let room = last-room _ _ _ _ _ _ _ _ _ _ (begun t (goal.at.overflow_add-y-2 t c).Joined-o) _
    c.compile-y.result c.compile-y.ensures in
    omega (arith, room)

pub offset_bounds-out-y : goal.offset_bounds-out-y
offset_bounds-out-y t c =
    omega (
      arith,
      last-room _ _ _ _ _ _ _ _ _ _ (begun t (goal.at.offset_bounds-out-y t c).Joined-o) _
          c.compile-y.result c.compile-y.ensures,
    )

pub bounds-out-y : goal.bounds-out-y
bounds-out-y t c =
    last-room _ _ _ _ _ _ _ _ _ _ (begun t (goal.at.bounds-out-y t c).Joined-o) _ c.compile-y.result
    c.compile-y.ensures

pub returns : goal.returns
returns t c =
    let y = c.compile-y in
    pair-compiled _ _ _ _ _ _ _ _ _ _ (begun t (goal.at.returns t c).Joined-o) _ y.result y.ensures _ _
    (ap (set y.new.out y.result.done) c.operate.ensures) c.made.ensures
