-- A `let` and its lines in the unrolled form lead to what is alike. Assumes nothing.
use Prim.Native.Nat.{ℕ, ◌+◌, ◌-◌, ◌≤◌}
use native.Mathlib.Omega.{arith}
use mathlib.Core.Path.{◌≡◌, refl, sym, ap, ap₂, ◌∙◌, subst}
use mathlib.Core.Bool.{Bool, true, false}
use mathlib.Core.List.{List, [], ◌∷◌, ◌++◌, map as map_list}
use Rattle.std.specs.Prelude.{Some as some}
use lib.Dec.{eqb}
use lib.ListN.{length, take, drop, get_or, replicate}
use borrow.Author.Tests.{ltb-false}
use Rattle.tokens.specs.declared.word.Word.TheVariants as Word
use Rattle.tokens.specs.Byte.{Each}
use Rattle.tokens.specs.Token.{Name}
use Rattle.tokens.proofs.Laws.Written.{Named}
use Rattle.tokens.proofs.Laws.Numbered.{most_number}
use Rattle.grammar.specs.Formula.{Formula}
use Rattle.grammar.specs.Record.{letting}
use Rattle.grammar.proofs.Laws.Spelt.{Spelt}
use Rattle.rules.specs.declared.types.Op.{Op}
use Rattle.rules.specs.declared.types.Statement.{Statement}
use Rattle.rules.specs.Limits.{most_statements}
use Rattle.rules.specs.Order.{in_masked}
use Rattle.rules.specs.State.{State}
use Rattle.rules.specs.Grown.{at_stage}
use Rattle.rules.specs.Stated.{unnamed}
use Rattle.rules.specs.Scope.{place_of, given, unknown_formula, let_count}
use Rattle.rules.specs.Faults.{repeats, reads_unknown, statement_count}
use Rattle.rules.specs.Scope.{let_ops}
use Rattle.rules.specs.Faults.{exceeds}
use Rattle.unrolled.specs.Unrolled.{unnamed_in, free_names, let_names, let_lines, record_of, names_for}
use Rattle.unrolled.proofs.Laws.Set.{In, in_missing, out-given}
use Rattle.unrolled.proofs.Laws.Free.{named-not}
use Rattle.unrolled.proofs.Laws.Filled.{filled, filled-length, filled_append, filled_let}
use Rattle.unrolled.proofs.Laws.Reading.{missing-filled, place_read}
use Rattle.rules.proofs.Laws.Keeping.{Passed}
use Rattle.unrolled.proofs.Laws.Steps.{leads_to}
use Rattle.unrolled.proofs.Laws.Runs.{runs}
use Rattle.rules.proofs.Laws.Letting.{let_length, let_some}
use Rattle.rules.proofs.Laws.Limits.{Bounded}
use Rattle.unrolled.proofs.Laws.Load.{Plain}
use Rattle.unrolled.proofs.Laws.Blocks.{resting, names_of, grown, grown-same, grown-own, ops_of, block_names_lem}
use Rattle.unrolled.proofs.Laws.Blocks.{statements_at, let_adds}
use Rattle.unrolled.proofs.Laws.Related.{renamed, renamed-names, Related, related-count, grown-related}
use Rattle.unrolled.proofs.Laws.Below.{Below, stage-names}
use Rattle.unrolled.proofs.Laws.Alike.{here-related, off_here}
use Rattle.unrolled.proofs.Laws.Fresh.{let_room, names-length, names-named, names-new}
use Rattle.unrolled.proofs.Laws.Written.{stage_self}
use Rattle.unrolled.proofs.Laws.Operands.{Ready}
use Rattle.unrolled.proofs.Laws.Letting.{let_taken}

-- what the statements of a `let` compute
ops-lined : (n : ℕ) (ops : List Op) → ops_of (map_list (λ o. record { op = o; line = n }) ops) ≡ ops
ops-lined n [] = refl
ops-lined n (o ∷ ops) = ap (λ (l : List Op). o ∷ l) (ops-lined n ops)

-- few enough values to number
few-names : (last : State) → Bounded last → (b : Bool) → length (names_of b last) ≤ most_number
unfolding names_of
few-names last D true = omega (arith, D.masked, D.variables, D.statements)
few-names last D false = omega (arith, D.origin, D.inputs, D.statements)

-- Lines that are taken from q on, behind line m: none is a `let`, and what they lead to is related to t.
pub record Unrolls (last t q : State) (m : ℕ) (ls : List (List ℕ)) : Type 0 where
  pub led : State
  pub taken : runs q m ls ≡ some led
  pub related : Related last t led
  pub plain : Each (λ l. Plain (record_of l)) ls

module _ (last s : State) (os ms : List Statement) (eo : ops_of os ≡ ops_of s.origin.statements)
    (em : ops_of ms ≡ ops_of s.masked.statements) (B : Below last s) (K : Bounded s) (D : Bounded last) (n m : ℕ)
    (x : Name) (f : Formula) (named : Named x) (S : Spelt f) (p : Passed s Word.Let (letting x f))
    (C : Below last (leads_to s n Word.Let (letting x f))) (b : Bool) (e : eqb s.stage in_masked ≡ b) where
  -- the names of the block above the `let`
  abbrev ns : List Name
  ns = names_of b s

  -- those behind the text
  abbrev used : List Name
  used = names_of b last

  -- how many inner values there are
  abbrev c : ℕ
  c = let_count f - 1

  count : c + 1 ≡ let_count f
  count = omega (arith, let_some f)

  -- the names that the `let` adds
  abbrev adds : List Name
  adds = replicate (length (statements_at b s n f) - 1) unnamed ++ x ∷ []

  adds_are : replicate c unnamed ++ x ∷ [] ≡ adds
  adds_are =
      ap (λ (i : ℕ). replicate (i - 1) unnamed ++ x ∷ [])
      (sym (let_length ns s.map_names (length ns) n f))

  -- what the `let` leads to
  leads : leads_to s n Word.Let (letting x f) ≡ grown b s adds (statements_at b s n f)
  leads =
      ap (at_stage s.stage) (let_adds b s n x f e)
      ∙ stage_self (grown b s adds (statements_at b s n f)) s.stage
      (sym (grown-same b s adds (statements_at b s n f)).0)

  -- its names stand at the front of those behind the text
  more : List Name
  more = (C b).0

  front : (ns ++ (replicate c unnamed ++ x ∷ [])) ++ more ≡ used
  unfolding more
  front =
      ap (λ (l : List Name). (ns ++ l) ++ (C b).0) adds_are
      ∙ ap (λ (l : List Name). l ++ (C b).0)
      (sym (ap (names_of b) leads ∙ grown-own b s adds (statements_at b s n f)))
      ∙ (C b).1

  new : In x ns → ⊥
  unfolding repeats
  new = out-given x ns (sym (ap (given x) (block_names_lem b s e)) ∙ p.fresh)

  few : length used ≤ most_number
  few = few-names last D b

  -- the names that its lines give
  abbrev names : List Name
  names = take c (drop (unnamed_in ns) (free_names used)) ++ x ∷ []

  names_are : names_for last s x f ≡ names
  unfolding names_for let_names at_stage
  names_are =
      ap₂ {C = List Name} (λ (a d : List Name). let_names (free_names a) (unnamed_in d) (let_count f) x)
      (block_names_lem b (at_stage s.stage last) e ∙ stage-names b s.stage last) (block_names_lem b s e)

  size : length names ≡ let_count f
  size = names-length used ns more c x named few front new ∙ count

  -- the names of the set behind the `let`
  filled-names : filled (free_names used) 0 ns ++ names ≡ filled (free_names used) 0 (ns ++ adds)
  filled-names =
      let free = free_names used in
      let z : unnamed_in ns ≡ 0 + unnamed_in ns = omega arith in
      ap (λ (l : List Name). filled free 0 ns ++ l)
      (sym (filled_let free (unnamed_in ns) c x (named-not x named)
      (omega (arith, let_room used ns more c x named few front new)))
      ∙ ap (λ (i : ℕ). filled free i (replicate c unnamed ++ x ∷ [])) z)
      ∙ sym (filled_append free 0 ns (replicate c unnamed ++ x ∷ []))
      ∙ ap (λ (l : List Name). filled free 0 (ns ++ l)) adds_are

  -- all is ready for the lines
  ready : Ready b (renamed last s os ms) ns names
  unfolding exceeds renamed resting
  ready =
      let free = free_names used in
      let q = renamed last s os ms in
      let here = renamed-names last b s os ms in
      let off = off_here last s os ms eo em B b in
      record {
        block = e;
        stands = p.stands;
        size = ap length here ∙ filled-length free 0 ns;
        holds = λ n h k. subst (In n) (sym here) (in_missing n (filled free 0 ns) (missing-filled free ns off n h k));
        place = λ n h k. ap (place_of n) here ∙ place_read free ns off n h k;
        named = λ i h. names-named used ns more c x named few front new i (omega (arith, size, count));
        fresh = λ i h. subst (λ (l : List Name). In (get_or names i unnamed) (l ++ take i names) → ⊥) (sym here)
            (names-new used ns more c x named few front new i (omega (arith, size, count)));
        room = omega (
          arith,
          size,
          related-count last s q (here-related last s os ms eo em B),
          ltb-false most_statements (statement_count s + let_count f) p.within,
        );
        few = K.variables;
      }

  -- THEOREM: the lines of the `let`
  pub let_unrolls : Unrolls last (leads_to s n Word.Let (letting x f)) (renamed last s os ms) m
      (let_lines (names_for last s x f) f)
  unfolding reads_unknown renamed resting
  let_unrolls =
      let q = renamed last s os ms in
      let sts = statements_at b s n f in
      let known : unknown_formula ns s.map_names f ≡ false =
      sym (ap (λ (l : List Name). unknown_formula l s.map_names f) (block_names_lem b s e)) ∙ p.known in
      let T = let_taken b q ns names ready f m size S known in
      let R = here-related last s os ms eo em B in
      subst (λ (l : List Name). Unrolls last (leads_to s n Word.Let (letting x f)) q m (let_lines l f)) (sym names_are)
      (subst (λ (t : State). Unrolls last t q m (let_lines names f)) (sym leads) (record {
        led = grown b q names T.0;
        taken = T.1;
        related = grown-related last b s q adds names sts T.0 R filled-names
            (T.2 ∙ sym (ops-lined n (let_ops ns s.map_names (length ns) f)));
        plain = T.3;
      }))
