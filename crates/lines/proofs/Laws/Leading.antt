-- From a record's step before its stage to the definition's outcome of its line. Assumes nothing.
use Prim.Native.Nat.{ℕ, zero, suc}
use native.Mathlib.Omega.{arith}
use mathlib.Core.Path.{◌≡◌, sym, ◌∙◌, ap, subst}
use mathlib.Core.Bool.{true, false}
use mathlib.Core.List.{List}
use Rattle.std.specs.Prelude.{Option, None as none, Some as some}
use Rattle.tokens.specs.declared.word.Word.{Word}
use Rattle.tokens.specs.Ascii.{all, allowed, tab}
use Rattle.tokens.specs.Split.{pieces}
use Rattle.grammar.specs.Record.{Record, field, record_for}
use Rattle.tokens.specs.Word.{word_of}
use Rattle.rules.specs.Order.{may_stand, stage_after}
use Rattle.rules.specs.State.{State}
use Rattle.rules.specs.Grown.{at_stage}
use Rattle.rules.specs.Added.{added}
use Rattle.rules.specs.Read.{Outcome, stop, next, first_of, unless, take_record, take_pieces, take_line}
use Rattle.lines.specs.Taken.{first_fault, fault_of, takes, Leads}
use Rattle.lines.specs.declared.known.Known.{Known}
use Rattle.lines.specs.declared.step.Step.{Step}
use Rattle.std.specs.Prelude.{Result}
use Rattle.tokens.specs.declared.refusal.Refusal.{Refusal}
use Rattle.rules.specs.declared.types.Op.{Op}
use Rattle.grammar.specs.declared.line.NameRef.{NameRef}

-- a step as a match knows it
pub leads_is : {s : List ℕ} {t : List NameRef} {codes : List Op} {k : Known} {f : State → Outcome}
    {r x : Result Step Refusal} → r ≡ x → Leads s t codes k x f → Leads s t codes k r f
leads_is {s} {t} {codes} {k} {f} e = subst (λ (r : Result Step Refusal). Leads s t codes k r f) (sym e)

-- ---- a stop is no next

is_next : Outcome → ℕ
is_next (stop e) = 0
is_next (next s) = 1

state_or : State → Outcome → State
state_or d (stop e) = d
state_or d (next s) = s

clash : {A : Type 0} {e : ℕ} {s : State} → stop e ≡ next s → A
unfolding is_next
clash q = let z : ◌≡◌ {A = ℕ} 0 1 = ap is_next q in absurd (omega arith)

same_stop : (e f : ℕ) (a b : State) → stop e ≡ unless f a → stop e ≡ unless f b
unfolding unless
same_stop e zero a b q = clash q
same_stop e (suc f) a b q = q

same_next_lem : (f : ℕ) (x a : State) (g : State → State) → next x ≡ unless f a
    → next (g x) ≡ unless f (g a)
unfolding unless state_or
same_next_lem zero x a g q = ap (λ (o : Outcome). next (g (state_or x o))) q
same_next_lem (suc f) x a g q = clash (sym q)

module _ (st : State) (n : ℕ) (w : Word) where
  -- a refusal
  pub record_stops : (o : Option Record) (e : ℕ) → stop e ≡ takes st n (may_stand w st.stage) o
      → stop e ≡ take_record st n w o
  unfolding takes take_record fault_of first_fault first_of
  record_stops none e q = q
  record_stops (some r) e q =
      same_stop e (fault_of st (may_stand w st.stage) r) (added n r st)
      (at_stage (stage_after w st.stage) (added n r st)) q

  -- the record is taken
  pub record_goes : (o : Option Record) (x : State) → next x ≡ takes st n (may_stand w st.stage) o
      → next (at_stage (stage_after w st.stage) x) ≡ take_record st n w o
  unfolding takes take_record fault_of first_fault first_of
  record_goes none x q = clash (sym q)
  record_goes (some r) x q =
      same_next_lem (fault_of st (may_stand w st.stage) r) x (added n r st) (at_stage (stage_after w st.stage)) q

-- ---- lines

module _ (st : State) (n : ℕ) (l : List ℕ) where
  -- refusal 3
  pub line-bad : all allowed l ≡ false → stop 3 ≡ take_line st n l
  unfolding take_line
  line-bad h = simp h

  -- a line of allowed bytes leads where its record leads
  pub line_record : all allowed l ≡ true → (w : Word) → w ≡ word_of (field 0 (pieces tab l))
      → take_record st n w (record_for w (pieces tab l)) ≡ take_line st n l
  unfolding take_line take_pieces
  line_record h w e = ap (λ (v : Word). take_record st n v (record_for v (pieces tab l))) e ∙ simp h
