-- A statement that is written is taken where its name is new and what it reads is given. Assumes nothing.
use Prim.Native.Nat.{ℕ, ◌+◌, ◌≤◌}
use native.Mathlib.Omega.{arith}
use mathlib.Core.Path.{◌≡◌, refl, sym, ap, ap₂, ◌∙◌, subst}
use mathlib.Core.Bool.{Bool, true, false}
use mathlib.Core.List.{List, [], ◌∷◌, ◌++◌}
use lib.Dec.{eqb}
use lib.ListN.{length}
use borrow.Author.Tests.{le-ltb}
use Rattle.tokens.specs.declared.word.Word.{Word}
use Rattle.tokens.specs.Ascii.{tab}
use Rattle.tokens.specs.Split.{pieces}
use Rattle.tokens.specs.Token.{Name}
use Rattle.tokens.proofs.Laws.Written.{Named}
use Rattle.grammar.specs.Record.{Form, assign, record_for, nests}
use Rattle.grammar.specs.Written.{written_line}
use Rattle.grammar.proofs.Laws.Written.{SpeltForm, word_for, line-written}
use Rattle.rules.specs.declared.types.Op.{Op}
use Rattle.rules.specs.declared.types.Statement.{Statement}
use Rattle.rules.specs.Limits.{most_variables, most_statements}
use Rattle.rules.specs.Order.{in_masked, may_stand, stage_after}
use Rattle.rules.specs.State.{State}
use Rattle.rules.specs.Grown.{at_stage}
use Rattle.rules.specs.Scope.{given, unknown_form, drawn}
use Rattle.rules.specs.Faults.{repeats, reads_unknown, statement_count, exceeds, miscounts}
use Rattle.rules.specs.Scope.{op_in}
use Rattle.rules.specs.Faults.{block}
use Rattle.rules.specs.Added.{added}
use Rattle.rules.specs.Read.{next, take_line}
use Rattle.unrolled.specs.Unrolled.{record_of}
use Rattle.unrolled.proofs.Laws.Steps.{leads_to, taken-line}
use Rattle.unrolled.proofs.Laws.Load.{Plain, stage-same}
use Rattle.unrolled.proofs.Laws.Blocks.{names_of, grown, grown-same, grown-own, grown-count, grown-more}
use Rattle.unrolled.proofs.Laws.Blocks.{block_names_lem, drawing-none, statement_at, assign-adds}

-- the line of a statement makes it, and is no `let`
pub written-plain : (x : Name) (f : Form) → Named x → SpeltForm f → Plain (record_of (written_line x f))
unfolding record_of
written-plain x f h F =
    let w = line-written x f h F in
    subst Plain (sym (ap (λ (v : Word). record_for v (pieces tab (written_line x f))) w.1 ∙ w.2)) tt

-- the stage that it is at
pub stage_self : (t : State) (k : ℕ) → k ≡ t.stage → at_stage k t ≡ t
unfolding at_stage
stage_self t k e = ap (λ (i : ℕ). at_stage i t) e

module _ (b : Bool) (q : State) (ns : List Name) (sts : List Statement) (e : eqb q.stage in_masked ≡ b) where
  -- the stage is the block's
  grown-stands : eqb (grown b q ns sts).stage in_masked ≡ b
  grown-stands = ap (λ (i : ℕ). eqb i in_masked) (grown-same b q ns sts).0 ∙ e

  -- the names of the block
  grown-block : (block (grown b q ns sts)).names ≡ names_of b q ++ ns
  grown-block = block_names_lem b (grown b q ns sts) grown-stands ∙ grown-own b q ns sts

  -- one statement more, that draws no variable
  grown-leads : (n : ℕ) (x : Name) (f : Form) → drawn f ≡ 0
      → leads_to (grown b q ns sts) n (word_for f) (assign x f)
      ≡ grown b q (ns ++ x ∷ []) (sts ++ statement_at b (grown b q ns sts) n f ∷ [])
  grown-leads n x f z =
      let g = grown b q ns sts in
      let st = statement_at b g n f in
      let add : added n (assign x f) g ≡ grown b q (ns ++ x ∷ []) (sts ++ st ∷ []) =
      assign-adds b g n x f grown-stands
      ∙ ap (λ (t : State). grown b t (x ∷ []) (st ∷ [])) (drawing-none b (drawn f) g z)
      ∙ grown-more b q ns (x ∷ []) sts (st ∷ []) in
      ap (at_stage (stage_after (word_for f) g.stage)) add
      ∙ stage_self (grown b q (ns ++ x ∷ []) (sts ++ st ∷ [])) (stage_after (word_for f) g.stage)
      (stage-same f g.stage ∙ (grown-same b q ns sts).0
      ∙ sym (grown-same b q (ns ++ x ∷ []) (sts ++ st ∷ [])).0)

  -- THEOREM: the line of a statement is taken
  pub written-taken : (n : ℕ) (x : Name) (f : Form) → drawn f ≡ 0 → Named x → SpeltForm f
      → may_stand (word_for f) q.stage ≡ true → given x (names_of b q ++ ns) ≡ false
      → unknown_form (names_of b q ++ ns) q.map_names f ≡ false
      → statement_count q + length sts + 1 ≤ most_statements → q.variables ≤ most_variables
      → take_line (grown b q ns sts) n (written_line x f)
      ≡ next (grown b q (ns ++ x ∷ []) (sts ++ statement_at b (grown b q ns sts) n f ∷ []))
  unfolding nests repeats reads_unknown exceeds miscounts
  written-taken n x f z h F may new known room few =
      let g = grown b q ns sts in
      let k = grown-same b q ns sts in
      let l = written_line x f in
      let w = line-written x f h F in
      let count = grown-count b q ns sts in
      taken-line g n l (grown b q (ns ++ x ∷ []) (sts ++ statement_at b g n f ∷ [])) (record {
        bytes = w.0;
        made = assign x f;
        makes = ap (λ (v : Word). record_for v (pieces tab l)) w.1 ∙ w.2;
        passes = record {
          shallow = refl;
          stands = ap₂ {C = Bool} may_stand w.1 k.0 ∙ may;
          fresh = ap (given x) grown-block ∙ new;
          known = ap₂ {C = Bool} (λ (a m : List Name). unknown_form a m f) grown-block k.2 ∙ known;
          within = rw (
            le-ltb most_statements (statement_count g + 1) (omega arith),
            le-ltb most_variables (g.variables + drawn f) (omega (arith, k.1)),
          );
          counted = refl;
        };
        leads = ap (λ (v : Word). leads_to g n v (assign x f)) w.1 ∙ grown-leads n x f z;
      })

  -- what that statement computes
  pub written-op : (n : ℕ) (f : Form)
      → (statement_at b (grown b q ns sts) n f).op ≡ op_in (names_of b q ++ ns) q.map_names q.variables f
  written-op n f =
      let k = grown-same b q ns sts in
      ap (λ (l : List Name). op_in l (grown b q ns sts).map_names (grown b q ns sts).variables f) (grown-own b q ns sts)
      ∙ ap₂ {C = Op} (λ (m : List Name) (v : ℕ). op_in (names_of b q ++ ns) m v f) k.2 k.1
