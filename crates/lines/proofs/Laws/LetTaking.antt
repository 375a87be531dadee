-- The step of a `let`: its faults, and what it adds, from what was found in its formula. Assumes nothing.
use Rattle.rules.specs.declared.types.Op.{Op}
use Prim.Native.Nat.{ℕ, max, ◌+◌, ◌≤◌, ◌<◌}
use native.Mathlib.Omega.{arith}
use mathlib.Core.Path.{◌≡◌, refl, sym, ◌∙◌, ap, subst}
use mathlib.Core.Bool.{Bool, true, false, cond}
use mathlib.Core.List.{List}
use Rattle.std.specs.Prelude.{Option, None as none, Some as some}
use Rattle.std.proofs.lemmas.Option.{none-some as none-ne-some}
use lib.Dec.{ltb, eqb}
use lib.ListN.{length, take, drop}
use borrow.Author.Tests.{ltb-false, le-ltb, lt-ltb}
use Rattle.tokens.specs.Limits.{most_depth}
use Rattle.tokens.specs.Split.{SpanIs}
use Rattle.tokens.specs.Token.{Name}
use Rattle.grammar.specs.declared.line.TextLine.{TextLine}
use Rattle.grammar.specs.declared.formula.FormulaRead.{FormulaRead}
use Rattle.grammar.specs.declared.line.NameRef.{NameRef}
use Rattle.grammar.specs.Formula.{Formula, depth, operations, read_formula}
use Rattle.grammar.specs.Line.{name_in}
use Rattle.grammar.specs.TextLine.{pieces_of, piece_of}
use Rattle.grammar.specs.Measured.{MeasuresAre}
use Rattle.grammar.specs.Record.{Record, letting, nests}
use Rattle.grammar.specs.Recorded.{let_in, formula_of}
use Rattle.rules.specs.declared.types.Statement.{Statement}
use Rattle.lines.specs.declared.known.Known.{Known}
use Rattle.lines.specs.declared.setting.Setting.{Setting}
use Rattle.lines.specs.declared.step.Letting.{Letting}
use Rattle.lines.specs.declared.step.Put.TheVariants.{Let}
use Rattle.lines.specs.declared.limited.Limited.{Limited}
use Rattle.std.specs.Prelude.{Ok, Err}
use Rattle.tokens.specs.Refusal.{number}
use Rattle.tokens.specs.declared.refusal.Refusal.{Refusal}
use Rattle.tokens.specs.declared.refusal.Refusal.TheVariants.{TooDeep}
use Rattle.lines.specs.Stage.{stage_of}
use Rattle.rules.specs.Limits.{most_statements}
use Rattle.rules.specs.Order.{in_masked}
use Rattle.rules.specs.Stated.{with_origin_all, with_masked_all}
use Rattle.rules.specs.Scope.{given, unknown_formula}
use Rattle.rules.specs.Faults.{repeats, reads_unknown, exceeds, miscounts}
use Rattle.rules.specs.Added.{added}
use Rattle.rules.specs.Scope.{let_ops}
use Rattle.rules.specs.Added.{at_line}
use Rattle.lines.specs.Lets.{field_of, statements_of, LetIs, LetWritten, Shallow}
use Rattle.lines.specs.Added.{stated, StatementsFit}
use Rattle.lines.specs.Known.{Arrays, kept, state_in, Sound, Sized, map_names, block_names}
use Rattle.lines.specs.Stored.{let_statements, after}
use Rattle.lines.specs.Taken.{first_fault, Took, text_of, names_above}
use Rattle.rules.proofs.Laws.Letting.{let_length, let_some}
use Rattle.lines.proofs.Laws.Known.{stated-sound, stated-stage}
use Rattle.lines.proofs.Laws.Block.{let_means}
use Rattle.lines.proofs.Laws.Stating.{block_names_lem}
use Rattle.lines.proofs.Laws.Taking.{Tested, no_faults, took_fault, took_deep, took_grown}
use Rattle.lines.proofs.Laws.Taking.{statements-length}
use Rattle.lines.proofs.Laws.LetWriting.{counted_is, let_stored}

module _ (here : Setting) (x : NameRef) (f : Letting) (S : Shallow (text_of here) f)
    (fl : f.line ≡ here.number)
    (u : Bool) (entry exit : List Op) {g m : Bool}
    (W : LetWritten (block_names (text_of here) (names_above here) here.held.known)
    (map_names (text_of here) (names_above here) here.held.known) entry exit u (read_formula (field_of (text_of here) f)))
    (gq : g ≡ given (name_in (text_of here) x) (block_names (text_of here) (names_above here) here.held.known))
    (mq : m ≡ ltb most_statements (here.held.known.origin + here.held.known.masked + f.count)) where
  -- the text
  abbrev s : List ℕ
  s = text_of here

  -- the names of the lines above
  abbrev t : List NameRef
  t = names_above here

  abbrev k : Known
  k = here.held.known

  abbrev K : Sound k
  K = here.held.sound

  abbrev ms : List Name
  ms = block_names s t k

  abbrev maps : List Name
  maps = map_names s t k

  abbrev rec : Record
  rec = letting (name_in s x) S.formula

  read : some rec ≡ let_in (name_in s x) (read_formula (field_of s f))
  read = ap (let_in (name_in s x)) (sym S.read)

  looked : LetIs ms maps entry exit u S.formula
  looked = subst (λ (o : Option Formula). LetWritten ms maps entry exit u o) S.read W

  tests : (a : Arrays) → Sized (kept t k a) → Tested (state_in s (kept t k a)) rec g u m false
  unfolding repeats reads_unknown exceeds miscounts state_in nests
  tests a z =
      let same = block_names_lem s t k a in
      record {
        repeats = gq ∙ ap (given (name_in s x)) same;
        unknown = looked.unknown ∙ ap (λ (ns : List Name). unknown_formula ns maps S.formula) same;
        exceeds = mq ∙ (λ i. ltb most_statements (sym (statements-length s (kept t k a) K z) i + S.count i));
        miscounts = refl;
        shallow = le-ltb _ _ S.shallow;
      }

  -- the `let` has a fault
  pub let_fault : {e : Refusal} → number e ≡ first_fault here.stands g u m false
      → Took exit here (let_in (name_in s x) (read_formula (field_of s f))) (Err e)
  let_fault w = took_fault here rec read tests w

  -- so many statements more are within the limits
  pub let_fits : 0 ≡ first_fault here.stands g u m false → StatementsFit k f.count
  let_fits w =
      let free = no_faults here.stands g u m false w refl in
      let few = ltb-false most_statements (k.origin + k.masked + f.count) (sym mq ∙ free.3) in
      (omega (arith, S.count, let_some S.formula), few)

  read_as : let_statements s t k f ≡ at_line f.line (let_ops ms maps (length ms) S.formula)
  read_as = ap (statements_of f.line ms maps) S.read

  grown : StatementsFit k f.count → stage_of k.stage ≤ in_masked → (a : Arrays) → Sized (kept t k a)
      → state_in s (after s (kept t k a) (stated k 0 f.count) (Let x f))
      ≡ added here.number rec (state_in s (kept t k a))
  unfolding added state_in
  grown fit low a z =
      let st = state_in s (kept t k a) in
      let long = ap (λ (l : List Statement). length l) read_as
      ∙ let_length ms maps (length ms) f.line S.formula ∙ sym S.count in
      let q = read_as
      ∙ (λ i. let ns = block_names_lem s t k a i in at_line (fl i) (let_ops ns maps (length ns) S.formula)) in
      let_means s (kept t k a) K z x f fit low long
      ∙ (λ i. cond (eqb (stage_of k.stage) in_masked) (with_masked_all (name_in s x) (q i) st)
      (with_origin_all (name_in s x) (q i) st))

  -- the `let` is taken
  pub let_grown : 0 ≡ first_fault here.stands g u m false → stage_of k.stage ≤ in_masked
      → {h : Limited} → h.known ≡ stated k 0 f.count
      → Took exit here (let_in (name_in s x) (read_formula (field_of s f)))
      (Ok (record { held = h; put = Let x f }))
  let_grown w low {h = h} q =
      let fit = let_fits w in
      let held = let_stored s t k x f fit S entry exit u looked in
      took_grown here rec read tests (record { held = h; put = Let x f }) w
      (ap (λ (j : Known). j.stage) q ∙ stated-stage k K f.count fit 0 (eqb (stage_of k.stage) in_masked)) fit held
      (λ a y. ap (λ (j : Known). state_in s (after s (kept t k a) j (Let x f))) q ∙ grown fit low a y)

  -- the counts behind the `let` are within their limits
  pub let_limited : 0 ≡ first_fault here.stands g u m false → {j : Known} → j ≡ stated k 0 f.count → Sound j
  let_limited w q =
      subst Sound (sym q) (stated-sound k K f.count (let_fits w) 0 (omega (arith, K.variables))
      (eqb (stage_of k.stage) in_masked) refl)

-- ---- a line's formula

-- a formula that a line has, by its measures
pub record Measured (r : FormulaRead) (o : Option Formula) : Type 0 where
  pub formula : Formula
  pub here : o ≡ some formula
  pub depth : r.depth ≡ depth formula
  pub operations : r.operations ≡ operations formula

-- the line has a formula
pub measured : (r : FormulaRead) (o : Option Formula) → MeasuresAre r o → Measured r o
measured r none m = absurd m
measured r (some e) m = record { formula = e; here = refl; depth = m.0; operations = m.1 }

field-two : (b : Bool) (o : Option Formula) (e : Formula) → cond b o none ≡ some e → o ≡ cond b o none
field-two true o e h = refl
field-two false o e h = absurd (none-ne-some e h)

module _ (l : TextLine) (r : FormulaRead) (M : Measured r (formula_of (pieces_of l))) (f : Letting) where
  -- the formula stands in the field
  pub line-field : take f.len (drop f.at l.text.now) ≡ piece_of l 2
      → read_formula (field_of l.text.now f) ≡ formula_of (pieces_of l)
  unfolding formula_of
  line-field h =
      ap read_formula h
      ∙ field-two (eqb (length (pieces_of l)) 3) (read_formula (piece_of l 2)) M.formula M.here

  -- it does not nest too deep
  pub line-shallow : SpanIs l.text.now f.at f.len (piece_of l 2) → f.count ≡ max r.operations 1
      → r.depth ≤ most_depth → Shallow l.text.now f
  line-shallow P c d =
      record {
        formula = M.formula;
        read = line-field P.holds ∙ M.here;
        inside = P.inside;
        count = c ∙ ap (λ (n : ℕ). max n 1) M.operations ∙ counted_is M.formula;
        shallow = omega (arith, M.depth, d);
      }

-- it nests too deep
pub line-deep : (here : Setting) (x : NameRef) (r : FormulaRead)
    (o : Option Formula) {codes : List Op} → Measured r o → most_depth < r.depth
    → Took codes here (let_in (name_in (text_of here) x) o) (Err TooDeep)
unfolding nests
line-deep here x r o M h =
    took_deep here (letting (name_in (text_of here) x) M.formula)
    (ap (let_in (name_in (text_of here) x)) (sym M.here))
    (lt-ltb most_depth (depth M.formula) (omega (arith, M.depth, h)))
