-- One record by its faults and what it adds, before its stage; and the code's step. Assumes nothing.
use Rattle.std.specs.Prelude.{ℕ, ◌≡◌, Bool, true, not, cond, List, [], ◌∷◌}
use Rattle.std.specs.Prelude.{Option, None as none, Some as some}
use Rattle.lines.specs.declared.known.Known.{Known}
use Rattle.lines.specs.declared.setting.Setting.{Setting}
use Rattle.lookup.specs.declared.names.Names.{Names}
use Rattle.lookup.specs.declared.names.Set.{Set}
use Rattle.lines.specs.declared.step.Step.{Step}
use Rattle.rules.specs.declared.types.Op.{Op}
use Rattle.tokens.specs.declared.word.Word.{Word}
use Rattle.grammar.specs.declared.line.NameRef.{NameRef}
use Rattle.grammar.specs.declared.line.TextLine.{TextLine}
use Rattle.grammar.specs.declared.record.Rec.{Rec}
use Rattle.grammar.specs.TextLine.{bytes_of, pieces_of}
use Rattle.grammar.specs.Record.{Record, record_for, nests}
use Rattle.grammar.specs.Recorded.{record_in}
use Rattle.rules.specs.State.{State}
use Rattle.rules.specs.Faults.{repeats, reads_unknown, exceeds, miscounts}
use Rattle.rules.specs.Added.{added}
use Rattle.rules.specs.Read.{first_of, Outcome, stop, next, unless, take_record, take_line}
use Rattle.std.specs.Prelude.{Result, Ok, Err, IfOk}
use Rattle.tokens.specs.declared.refusal.Refusal.{Refusal}
use Rattle.tokens.specs.Refusal.{number}
use Rattle.lines.specs.Known.{Arrays, Kept, kept, state_in, Sized}
use Rattle.lines.specs.Added.{Fits}
use Rattle.lines.specs.Stored.{LetsHeld, after}

-- the number of the first fault, by the answers of the five tests; the first is whether the record may stand here
unfoldable pub first_fault : Bool → Bool → Bool → Bool → Bool → ℕ
first_fault stands a b c d = first_of ((6, not stands) ∷ (7, a) ∷ (8, b) ∷ (9, c) ∷ (10, d) ∷ [])

-- the number of the first fault of a record, by what is known above it
unfoldable pub fault_of : State → Bool → Record → ℕ
fault_of st stands r =
    cond (nests r) 13
    (first_fault stands (repeats st r) (reads_unknown st r) (exceeds st r) (miscounts st r))

-- `take_record`, before its stage
unfoldable pub takes : State → ℕ → Bool → Option Record → Outcome
takes st n stands none = stop 5
takes st n stands (some r) = unless (fault_of st stands r) (added n r st)

-- the number of the first fault that was found, or 0
abbrev pub fault_number : Result (Unit {0}) Refusal → ℕ
fault_number (Ok u) = 0
fault_number (Err e) = number e

-- what a step, or a refusal, leads to
unfoldable pub outcome_in : List ℕ → Kept → Result Step Refusal → Outcome
outcome_in s h (Ok r) = next (state_in s (after s h r.held.known r.put))
outcome_in s h (Err e) = stop (number e)

-- whatever the arrays hold, the step leads from the state with them to what f says of that state
abbrev pub Led : List ℕ → List NameRef → Known → Result Step Refusal → (State → Outcome) → Type 0
Led s t k r f =
    (a : Arrays) → Sized (kept t k a) → outcome_in s (kept t k a) r ≡ f (state_in s (kept t k a))

-- the text that a record stands in
abbrev pub text_of : Setting → List ℕ
text_of here = here.line.text.now

-- the names of the lines above it
abbrev pub names_above : Setting → List NameRef
names_above here = here.table.now

-- a set of the names above, by their places in the text
abbrev pub set_of : Setting → Names → Set
set_of here ns = record { text = here.line.text; table = here.table; names = ns }

-- a record that is taken may stand here, behind it the stage is the same, and what it gives is within the limits
pub record Stepped (codes : List Op) (here : Setting) (r : Step) : Type 0 where
  pub stage : r.held.known.stage ≡ here.held.known.stage
  pub fits : Fits here.held.known r.put
  pub lets : LetsHeld (text_of here) (names_above here) codes here.held.known r.put
  pub stood : here.stands ≡ true

-- the whole outcome of taking the record o, before its stage; codes holds the operations of a `let`
pub record Took (codes : List Op) (here : Setting) (o : Option Record)
    (r : Result Step Refusal) : Type 0 where
  pub outcome : Led (text_of here) (names_above here) here.held.known r (λ st. takes st here.number here.stands o)
  pub step : IfOk r (Stepped codes here)

-- the same of a record that is no `let`: whatever the operations of a `let` are
abbrev pub TookAny : Setting → Option Record → Result Step Refusal → Type 0
TookAny here o r = (codes : List Op) → Took codes here o r

-- the record that the code's record r stands for
abbrev pub record_at : Setting → Rec → Option Record
record_at here r = record_in (text_of here) (pieces_of here.line) r

-- what a step gives is within the limits
pub record Passed (s : List ℕ) (t : List NameRef) (codes : List Op) (k : Known) (r : Step) : Type 0 where
  pub fits : Fits k r.put
  pub lets : LetsHeld s t codes k r.put

-- a step leads to what f says of the state above it; codes holds the operations of a `let`
pub record Leads (s : List ℕ) (t : List NameRef) (codes : List Op) (k : Known) (r : Result Step Refusal)
    (f : State → Outcome) : Type 0 where
  pub outcome : Led s t k r f
  pub step : IfOk r (Passed s t codes k)

-- what the record of line n leads to, its word known
abbrev pub RecordLeads : List NameRef → List Op → Known → TextLine → ℕ → Word → Result Step Refusal → Type 0
RecordLeads t codes k l n w r =
    Leads l.text.now t codes k r (λ st. take_record st n w (record_for w (pieces_of l)))

-- what line n leads to, which its line feed ends
abbrev pub LineLeads : List NameRef → List Op → Known → TextLine → ℕ → Result Step Refusal → Type 0
LineLeads t codes k l n r = Leads l.text.now t codes k r (λ st. take_line st n (bytes_of l))
