-- A formula looked up part by part gives what the definition says of the whole. Assumes nothing.
use Prim.Native.Nat.{ℕ, ◌+◌, ◌-◌, ◌≤◌, ◌<◌}
use mathlib.Core.Path.{◌≡◌, refl, sym, ap, subst, ◌∙◌}
use mathlib.Core.Bool.{Bool, true, false, ◌||◌}
use mathlib.Core.List.{List, [], ◌∷◌, ◌++◌}
use Rattle.std.specs.Prelude.{Option, None as none, Some as some}
use Rattle.std.proofs.lemmas.Option.{same_Some as some-injective}
use native.Mathlib.Omega.{arith}
use lib.Dec.{eqb}
use lib.ListN.{length, take, drop}
use Rattle.tokens.specs.Ascii.{is_mark}
use Rattle.tokens.specs.Split.{until}
use Rattle.tokens.specs.Token.{◌>>=◌, provided, Name, Term, name, read_name, read_plain, read_term}
use Rattle.tokens.specs.Limits.{no_part}
use Rattle.grammar.specs.declared.formula.Operation.{Operation}
use Rattle.grammar.specs.declared.record.Binary.{Binary}
use Rattle.grammar.specs.Formula.{Formula, Parsed, operand, app, twofold, operations, front, rest, operation_at}
use Rattle.grammar.specs.Formula.{map_at, operand_at, pair_at, level_for, level, parsed}
use Rattle.rules.specs.declared.types.Operand.{Operand}
use Rattle.rules.specs.declared.types.Op.{Op}
use Rattle.rules.specs.declared.types.Operand.TheVariants.{Place}
use Rattle.lookup.specs.declared.compile.Compiled.{Compiled}
use Rattle.rules.specs.Limits.{most_statements}
use Rattle.rules.specs.Scope.{place_of, missing, unknown_term, operand_in, unknown_formula, value_of, compiled}
use Rattle.lookup.specs.Found.{joined, operated, term_found}
use Rattle.lookup.specs.Compiled.{compiled_of, looked, MapLooked, TermLooked}
use Rattle.lookup.specs.Coded.{written}
use Rattle.lookup.specs.Compiled.{CompileIs, Compiles, Room}
use Rattle.grammar.proofs.Laws.Formula.{parsed-level}
use Rattle.grammar.proofs.Laws.Measured.{mark_behind, mark_front, mark_rest, mark_within}
use Rattle.rules.proofs.Laws.Letting.{compiled-length}
use Rattle.lookup.proofs.Laws.Parts.{PairIs, pair_view, room-some}
use Rattle.lookup.proofs.Laws.Begun.{Begun}

level-is : (s : List ℕ) {o : Operation} → operation_at s ≡ o → parsed s ≡ level_for parsed o s
unfolding level
level-is s e = parsed-level s ∙ ap (λ (o : Operation). level_for parsed o s) e

module _ (ms maps : List Name) (n : ℕ) where
  two-unknown : (g : Binary) (a b : Formula)
      → unknown_formula ms maps (twofold g a b) ≡ (unknown_formula ms maps a || unknown_formula ms maps b)
  unfolding unknown_formula
  two-unknown Binary.Xor a b = refl
  two-unknown Binary.Mul a b = refl

  two-value : (g : Binary) (a b : Formula) → value_of ms n (twofold g a b) ≡ Place (n + (operations a + operations b))
  unfolding value_of
  two-value Binary.Xor a b = refl
  two-value Binary.Mul a b = refl

  two-compiled : (g : Binary) (a b : Formula) → compiled ms maps n (twofold g a b)
      ≡ compiled ms maps n a ++ compiled ms maps (n + operations a) b
      ++ joined g (value_of ms n a) (value_of ms (n + operations a) b) ∷ []
  unfolding compiled
  two-compiled Binary.Xor a b = refl
  two-compiled Binary.Mul a b = refl

two-operations : (g : Binary) (a b : Formula) → operations (twofold g a b) ≡ operations a + operations b + 1
unfolding operations
two-operations Binary.Xor a b = refl
two-operations Binary.Mul a b = refl

map_view : (s : List ℕ) (g : Name) (u : List ℕ) (o : Option Name)
    → ◌≡◌ {A = Option (Name × List ℕ)} (o >>= λ f. some (f, rest s)) (some (g, u)) → (o ≡ some g) × (rest s ≡ u)
map_view s g u none e = let z : ◌≡◌ {A = ℕ} 0 1 = cc in absurd (omega arith)
map_view s g u (some f) e =
    let p = some-injective _ _ e in
    (ap (λ (z : Name × List ℕ). some z.0) p, ap (λ (z : Name × List ℕ). z.1) p)

plain-named : (s : List ℕ) (g : Name) (o : Option Name) → (o >>= λ n. provided (eqb n.part no_part) n) ≡ some g
    → o ≡ some g
plain-named s g none e = let z : ◌≡◌ {A = ℕ} 0 1 = cc in absurd (omega arith)
plain-named s g (some n) e = go (eqb n.part no_part) e
  where
    go : (b : Bool) → provided b n ≡ some g → some n ≡ some g
    go true p = p
    go false p = let z : ◌≡◌ {A = ℕ} 0 1 = cc in absurd (omega arith)

module _ (ms maps : List Name) (base at k mark : ℕ) (f : List ℕ) (entry mid : List Op) (x : Compiled)
    (h : at ≤ length f)
    (e : mark ≡ at + until is_mark (drop at f)) (room : Room k (parsed (drop at f))) where
  -- an operation on two formulas
  two_view : (g : Binary) → operation_at (drop at f) ≡ Operation.Two g
      → (p : Parsed) × (parsed (drop at f) ≡ some p) × (k + operations p.0 ≤ most_statements)
      × PairIs (twofold g) (parsed (drop (mark + 1) f)) p
  unfolding level_for
  two_view g q =
      let r = room-some k (parsed (drop at f)) room in (
        r.0,
        r.1,
        r.2,
        pair_view (twofold g) (parsed (drop (mark + 1) f)) r.0
            (ap (λ (z : List ℕ). pair_at parsed (twofold g) (parsed z)) (mark_behind f at mark h e)
            ∙ sym (level-is (drop at f) q) ∙ r.1),
      )

  -- there is room for its first formula
  pub two-room : (g : Binary) → operation_at (drop at f) ≡ Operation.Two g → Room k (parsed (drop (mark + 1) f))
  two-room g q =
      let r = two_view g q in
      let P = r.3 in
      subst (Room k) (sym P.read)
      (omega (arith, r.2, ap (λ (z : Parsed). operations z.0) P.whole, two-operations g P.first P.second))

  pub two-begun : (g : Binary) → operation_at (drop at f) ≡ Operation.Two g
      → Compiles ms maps base (mark + 1) k f entry mid x (parsed (drop (mark + 1) f))
      → Begun ms maps base at k f entry mid x (Operation.Two g)
  two-begun g q c =
      let r = two_view g q in
      let P = r.3 in
      let a : Formula = P.first in
      let X : CompileIs ms maps base (mark + 1) k f entry mid x a P.u =
      subst (Compiles ms maps base (mark + 1) k f entry mid x) P.read c in
      record {
        e = twofold g a P.second;
        b = P.second;
        u = P.u;
        t = P.t;
        v = P.v;
        w = P.w;
        count = operations a;
        ops = compiled ms maps (base + k) a;
        whole = r.1 ∙ ap some P.whole;
        room = omega (arith, r.2, ap (λ (z : Parsed). operations z.0) P.whole);
        from = omega (arith, X.from);
        within = X.within;
        behind = X.behind;
        done = X.done;
        sized = compiled-length ms maps (base + k) a;
        codes = X.codes;
        comma = P.comma;
        nested = P.nested;
        close = P.close;
        unknowns = two-unknown ms maps (base + k) g a P.second
            ∙ ap (λ (z : Bool). z || unknown_formula ms maps P.second) (sym X.unknown);
        counted = two-operations g a P.second;
        value = two-value ms maps (base + k) g a P.second;
        made = two-compiled ms maps (base + k) g a P.second
            ∙ ap (λ (z : Operand). compiled ms maps (base + k) a
            ++ compiled ms maps (base + k + operations a) P.second
            ++ joined g z (value_of ms (base + k + operations a) P.second) ∷ []) (sym X.operand);
      }

  -- an image
  image_view : operation_at (drop at f) ≡ Operation.Image
      → (p : Parsed) × (parsed (drop at f) ≡ some p) × (k + operations p.0 ≤ most_statements)
      × PairIs app (map_at (drop (mark + 1) f)) p
  unfolding level_for
  image_view q =
      let r = room-some k (parsed (drop at f)) room in (
        r.0,
        r.1,
        r.2,
        pair_view app (map_at (drop (mark + 1) f)) r.0
            (ap (λ (z : List ℕ). pair_at parsed app (map_at z)) (mark_behind f at mark h e)
            ∙ sym (level-is (drop at f) q) ∙ r.1),
      )

  -- it has the name of a map
  pub image-named : operation_at (drop at f) ≡ Operation.Image
      → (g : Name) × (read_name (front (drop (mark + 1) f)) ≡ some g)
  unfolding map_at read_plain
  image-named q =
      let P = (image_view q).3 in
      let s : List ℕ = drop (mark + 1) f in (
        P.first,
        plain-named (front s) P.first (read_name (front s)) (map_view s P.first P.u (read_plain (front s)) P.read).0,
      )

  pub image-begun : operation_at (drop at f) ≡ Operation.Image → mark < length f
      → MapLooked maps f (mark + 1) k (some x) → mid ≡ entry
      → Begun ms maps base at k f entry mid x Operation.Image
  unfolding map_at read_plain term_found unknown_term operand_in operations unknown_formula value_of compiled written
  image-begun q l c m =
      let r = image_view q in
      let P = r.3 in
      let g : Name = P.first in
      let s : List ℕ = drop (mark + 1) f in
      let M = map_view s g P.u (read_plain (front s)) P.read in
      let N : read_name (front s) ≡ some g = plain-named (front s) g (read_name (front s)) M.0 in
      let end : ℕ = mark + 1 + until is_mark s in
      let X : x ≡ compiled_of end (missing maps g) (Place (place_of g maps)) k =
      some-injective _ _ (c ∙ ap (λ (o : Option Name). o >>= λ h. some (looked end (term_found maps (name h)) k)) N) in
      let xe : x.end ≡ end = ap (λ (z : Compiled). z.end) X in
      let n : base + k + 0 ≡ base + k = omega arith in
      record {
        e = app g P.second;
        b = P.second;
        u = P.u;
        t = P.t;
        v = P.v;
        w = P.w;
        count = 0;
        ops = [];
        whole = r.1 ∙ ap some P.whole;
        room = omega (arith, r.2, ap (λ (z : Parsed). operations z.0) P.whole);
        from = omega (arith, xe);
        within = omega (arith, xe, mark_within f (mark + 1) end (omega arith) refl);
        behind = ap (λ (i : ℕ). drop i f) xe ∙ mark_rest f (mark + 1) end (omega arith) refl ∙ M.1;
        done = ap (λ (z : Compiled). z.done) X ∙ omega arith;
        sized = refl;
        codes = m;
        comma = P.comma;
        nested = P.nested;
        close = P.close;
        unknowns = ap (λ (z : Compiled). z.unknown || unknown_formula ms maps P.second) (sym X);
        counted = omega arith;
        value = ap Place (omega arith);
        made = (λ i. compiled ms maps (sym n i) P.second
            ++ operated Operation.Image (sym X i).operand (value_of ms (sym n i) P.second) ∷ []);
      }

  -- there is an operand
  pub operand-there : operation_at (drop at f) ≡ Operation.Operand
      → (a : Term) × (read_term (take (mark - at) (drop at f)) ≡ some a)
  unfolding level_for operand_at
  operand-there q =
      let a = go (read_term (front (drop at f))) (subst (Room k) (level-is (drop at f) q) room) in
      (a.0, ap read_term (mark_front f at mark h e) ∙ a.1)
    where
      go : (o : Option Term) → Room k (o >>= λ a. some (operand a, rest (drop at f))) → (a : Term) × (o ≡ some a)
      go none r = absurd r
      go (some a) r = (a, refl)

  -- an operand
  pub operand-compiled : operation_at (drop at f) ≡ Operation.Operand → TermLooked ms f at mark k (some x)
      → mid ≡ entry → Compiles ms maps base at k f entry mid x (parsed (drop at f))
  unfolding level_for operand_at term_found unknown_formula value_of operations compiled written
  operand-compiled q c m =
      subst (Compiles ms maps base at k f entry mid x) (sym (level-is (drop at f) q))
      (go (read_term (front (drop at f))) (c ∙ ap (λ (z : List ℕ). read_term z >>= λ a. some (looked mark
      (term_found ms a) k)) (mark_front f at mark h e)))
    where
      go : (o : Option Term) → some x ≡ (o >>= λ a. some (looked mark (term_found ms a) k))
          → Compiles ms maps base at k f entry mid x (o >>= λ a. some (operand a, rest (drop at f)))
      go none X = tt
      go (some a) Y =
          let X = some-injective _ _ Y in
          let end : x.end ≡ mark = ap (λ (z : Compiled). z.end) X in
          record {
            from = omega (arith, end);
            within = omega (arith, end, mark_within f at mark h e);
            behind = ap (λ (i : ℕ). drop i f) end ∙ mark_rest f at mark h e;
            unknown = ap (λ (z : Compiled). z.unknown) X;
            operand = ap (λ (z : Compiled). z.operand) X;
            done = ap (λ (z : Compiled). z.done) X ∙ omega arith;
            codes = m;
          }

  -- a word that is no operation is no formula
  pub unknown-none : operation_at (drop at f) ≡ Operation.Unknown → ⊥
  unfolding level_for
  unknown-none q = subst (Room k) (level-is (drop at f) q) room
