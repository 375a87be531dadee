-- An operation whose first part was looked up: what its second part asks, and what both give. Assumes nothing.
use Prim.Native.Nat.{ℕ, suc, ◌+◌, ◌-◌, ◌≤◌, ◌<◌}
use mathlib.Core.Path.{◌≡◌, sym, ap, subst, ◌∙◌}
use mathlib.Core.Bool.{Bool, ◌||◌}
use mathlib.Core.List.{List, [], ◌∷◌, ◌++◌}
use Rattle.std.specs.Prelude.{Some as some}
use native.Mathlib.Omega.{arith}
use lib.ListN.{length, drop, set, length-drop, length-append}
use lib.Seq.{drop-drop}
use Rattle.tokens.specs.Ascii.{comma, closing}
use Rattle.tokens.specs.Token.{Name}
use Rattle.grammar.specs.declared.formula.Operation.{Operation}
use Rattle.grammar.specs.Formula.{Formula, operations}
use Rattle.grammar.specs.Formula.{past, parsed}
use Rattle.rules.specs.declared.types.Operand.TheVariants.{Place}
use Rattle.rules.specs.declared.types.Op.{Op}
use Rattle.lookup.specs.declared.compile.Compiled.{Compiled}
use Rattle.rules.specs.Limits.{most_statements}
use Rattle.rules.specs.Scope.{unknown_formula, value_of, compiled}
use Rattle.lookup.specs.Found.{operated}
use Rattle.lookup.specs.Coded.{written}
use Rattle.lookup.specs.Compiled.{compiled_of, CompileIs, Compiles, Room}
use Rattle.rules.proofs.Laws.Letting.{compiled-length}
use Rattle.lookup.proofs.Laws.Parts.{past-some}

-- ---- operations written one after another

pub written_append : {A : Type 0} (t : List A) (k : ℕ) (xs ys : List A)
    → written t k (xs ++ ys) ≡ written (written t k xs) (k + length xs) ys
unfolding written
written_append t k [] ys = ap (λ (i : ℕ). written t i ys) (omega arith)
written_append t k (x ∷ xs) ys =
    let e : k + 1 + length xs ≡ k + suc (length xs) = omega arith in
    written_append (set t k x) (k + 1) xs ys ∙ ap (λ (i : ℕ). written (written (set t k x) (k + 1) xs) i ys) e

-- ---- the first part of an operation

module _ (ms maps : List Name) (base at k : ℕ) (f : List ℕ) (entry mid : List Op) (x : Compiled) (o : Operation) where
  -- the first part x was looked up, and what stands behind it makes the operation whole
  pub record Begun : Type 0 where
    pub e : Formula
    pub b : Formula
    pub u : List ℕ
    pub t : List ℕ
    pub v : List ℕ
    pub w : List ℕ
    pub count : ℕ
    pub ops : List Op
    pub whole : parsed (drop at f) ≡ some (e, w)
    pub room : k + operations e ≤ most_statements
    pub from : at ≤ x.end
    pub within : x.end ≤ length f
    pub behind : drop x.end f ≡ u
    pub done : x.done ≡ k + count
    pub sized : length ops ≡ count
    pub codes : mid ≡ written entry k ops
    pub comma : past comma u ≡ some t
    pub nested : parsed t ≡ some (b, v)
    pub close : past closing v ≡ some w
    pub unknowns : unknown_formula ms maps e ≡ (x.unknown || unknown_formula ms maps b)
    pub counted : operations e ≡ count + operations b + 1
    pub value : value_of ms (base + k) e ≡ Place (base + k + (count + operations b))
    pub made : compiled ms maps (base + k) e
        ≡ ops ++ compiled ms maps (base + k + count) b ++ operated o x.operand (value_of ms (base + k + count) b) ∷ []

  module _ (B : Begun) where
    next-at : (B.t ≡ drop (x.end + 1) f) × (x.end + 1 ≤ length f)
    next-at =
        let p = past-some comma B.u B.t B.comma in
        let n : length B.u ≡ length f - x.end = ap length (sym B.behind) ∙ length-drop x.end f in
        (p.0 ∙ ap (drop 1) (sym B.behind) ∙ drop-drop 1 x.end f, omega (arith, p.1, n, B.within))

    -- the second part starts in the field
    pub next-inside : x.end + 1 ≤ length f
    next-inside = next-at.1

    -- there is a formula, and room for it
    pub next-room : Room x.done (parsed (drop (x.end + 1) f))
    next-room =
        let q : some (B.b, B.v) ≡ parsed (drop (x.end + 1) f) = sym B.nested ∙ ap parsed next-at.0 in
        subst (Room x.done) q (omega (arith, B.done, B.counted, B.room))

    module _ (exit : List Op) (y : Compiled) (h : Compiles ms maps base (x.end + 1) x.done f mid exit y
        (parsed (drop (x.end + 1) f))) where
      second : CompileIs ms maps base (x.end + 1) x.done f mid exit y B.b B.v
      second =
          let q : parsed (drop (x.end + 1) f) ≡ some (B.b, B.v) = ap parsed (sym next-at.0) ∙ B.nested in
          subst (Compiles ms maps base (x.end + 1) x.done f mid exit y) q h

      -- there is room for the operation
      pub last-room : y.done < most_statements
      last-room = omega (arith, second.done, B.done, B.counted, B.room)

      -- its ) stands in the field
      pub last-inside : y.end + 1 ≤ length f
      last-inside =
          let p = past-some closing B.v B.w B.close in
          let n : length B.v ≡ length f - y.end = ap length (sym second.behind) ∙ length-drop y.end f in
          omega (arith, p.1, n, second.within)

      -- the operation is looked up
      pub pair-compiled : (out : List Op) (r : Compiled)
          → out ≡ set exit y.done (operated o x.operand y.operand)
          → r ≡ compiled_of (y.end + 1) (x.unknown || y.unknown) (Place (base + y.done)) (y.done + 1)
          → Compiles ms maps base at k f entry out r (parsed (drop at f))
      unfolding written
      pair-compiled out r c q =
          let n : ℕ = base + k + B.count in
          let cb : List Op = compiled ms maps n B.b in
          let d : base + x.done ≡ n = omega (arith, B.done) in
          let e1 : x.done ≡ k + length B.ops = omega (arith, B.done, B.sized) in
          let ex : exit ≡ written entry k (B.ops ++ cb) =
          second.codes ∙ ap (λ (i : ℕ). written mid x.done (compiled ms maps i B.b)) d
          ∙ (λ i. written (B.codes i) (e1 i) cb) ∙ sym (written_append entry k B.ops cb) in
          let to : y.done ≡ k + length (B.ops ++ cb) = omega (
            arith,
            second.done,
            B.done,
            B.sized,
            length-append B.ops cb,
            compiled-length ms maps n B.b,
          ) in
          let val : y.operand ≡ value_of ms n B.b =
          second.operand ∙ ap (λ (i : ℕ). value_of ms i B.b) d in
          let op : Op = operated o x.operand (value_of ms n B.b) in
          let p = past-some closing B.v B.w B.close in
          let place : base + y.done ≡ base + k + (B.count + operations B.b) =
          omega (arith, second.done, B.done) in
          subst (λ (z : Compiled). Compiles ms maps base at k f entry out z (parsed (drop at f))) (sym q)
          (subst (Compiles ms maps base at k f entry out
          (compiled_of (y.end + 1) (x.unknown || y.unknown) (Place (base + y.done)) (y.done + 1))) (sym B.whole)
          (record {
            from = omega (arith, second.from, B.from);
            within = last-inside;
            behind = sym (drop-drop 1 y.end f) ∙ ap (drop 1) second.behind ∙ sym p.0;
            unknown = ap (λ (z : Bool). x.unknown || z) second.unknown ∙ sym B.unknowns;
            operand = ap Place place ∙ sym B.value;
            done = omega (arith, second.done, B.done, B.counted);
            codes = c ∙ (λ i. set (ex i) (to i) (operated o x.operand (val i)))
                ∙ sym (written_append entry k (B.ops ++ cb) (op ∷ [])) ∙ ap (written entry k) (sym B.made);
          }))

-- the same first part under other names
pub begun_as : {ms maps : List Name} {base at k : ℕ} {f : List ℕ} {entry mid out : List Op}
    {x y : Compiled} {o p : Operation}
    → out ≡ mid → p ≡ o → y ≡ x → Begun ms maps base at k f entry mid x o → Begun ms maps base at k f entry out y p
begun_as {ms} {maps} {base} {at} {k} {f} {entry} {mid} {out} {x} {y} {o} {p} a b c B =
    subst (λ (z : List Op). Begun ms maps base at k f entry z y p) (sym a)
    (subst (λ (z : Operation). Begun ms maps base at k f entry mid y z) (sym b)
    (subst (λ (z : Compiled). Begun ms maps base at k f entry mid z o) (sym c) B))
