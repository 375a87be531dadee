-- What each verdict claims of a text ("What judge answers", "What the contracts have to decide"): Definition 1, run on
-- the listed bytes, and the term count; of the reduced difference, its number of terms and its highest powers alone.
-- Begin reading here.
-- Assumes nothing.
use Rattle.std.specs.Prelude.{◌≡◌, ℕ, suc, ◌+◌, ◌<◌, ◌≤◌, Bool, true, false, ◌≢◌, List, length, slice_index}
use Rattle.poly.specs.First.{highest, sum}
use Rattle.poly.specs.Canon.{Within, ByteList, Before}
use Rattle.rules.specs.Read.{Routine, Reading}
use Rattle.verdict.specs.declared.report.Report.{Report}
use Rattle.verdict.specs.Instances.{symbolic, difference}
use Rattle.verdict.specs.Equivalent.{Equivalent}
use Rattle.verdict.specs.Run.{result_at, joined_at}
use Rattle.verdict.specs.Count.{Step, step_at, steps, standing, most_terms, Over, First}
use Rattle.verdict.specs.Idle.{IdleInputs}
use Rattle.verdict.specs.declared.report.Trials.{Trials}
use Rattle.verdict.specs.Trials.{trial_at}
use Rattle.verdict.specs.Judge.{Outcome, refused, equal, differs, unknown, found, work_bytes}

-- the places that the count goes through
unfoldable pub places_of : Routine → List Step
places_of r = steps r (symbolic r)

-- place i is the first over the limit
abbrev pub GivenUp : Routine → ℕ → Type 0
GivenUp r i = First (most_terms r) (standing r (places_of r)) (places_of r) i

-- no place is over the limit
abbrev pub Decided : Routine → Type 0
Decided r = (i : ℕ) → i < length (places_of r) → Over (most_terms r) (standing r (places_of r)) (places_of r) i → ⊥

-- run's two bytes agree for every byte of every variable
abbrev pub Agrees : Routine → Type 0
Agrees r = (xs : List ℕ) → ByteList r.variables xs → result_at r xs ≡ joined_at r xs

-- equal: the count stays within the limit, and Definition 1 holds; i inputs are idle
pub record Equals (r : Routine) (i : ℕ) : Type 0 where
  pub counted : Decided r
  pub equivalent : Equivalent r
  pub idled : IdleInputs r i

-- differs: the count stays within the limit; run's two bytes differ on the listed
-- bytes, and agree on all bytes that come before in dictionary order; each listed
-- byte is at most the highest power of its variable in the difference; i inputs are idle
pub record Differing (r : Routine) (terms i : ℕ) (bs : List ℕ) : Type 0 where
  pub counted : Decided r
  pub bytes : ByteList r.variables bs
  pub differ : result_at r bs ≢ joined_at r bs
  pub first : (xs : List ℕ) → ByteList r.variables xs → Before xs bs → result_at r xs ≡ joined_at r xs
  pub bounded : Within (highest r.variables (difference r)) bs
  pub termed : terms ≡ length (difference r)
  pub idled : IdleInputs r i

-- what a report of differs claims of the listed bytes: they are the first that differ, and tried is their sum plus
-- their number
abbrev pub Listed : Routine → Report → List ℕ → Type 0
Listed r a bs = Differing r a.terms a.idle bs × (a.tried ≡ sum bs + length bs)

-- the line is that of the first place over the limit
pub record FirstPlace (r : Routine) (line : ℕ) : Type 0 where
  pub at : ℕ
  pub given : GivenUp r at
  pub lined : (step_at (places_of r) at).line ≡ line

-- run's two bytes agree on the first n trials
abbrev pub TrialsAgree : Routine → (start n : ℕ) → Type 0
TrialsAgree r start n = (i : ℕ) → i < n → result_at r (trial_at r start i) ≡ joined_at r (trial_at r start i)

-- unknown: the line is that of the first place over the limit, and all trials that were asked for agree
pub record Unknowns (t : Trials) (r : Routine) (line made : ℕ) : Type 0 where
  pub first : FirstPlace r line
  pub agree : TrialsAgree r t.start t.count
  pub all : made ≡ t.count

-- found: the line is that of the first place over the limit; the bytes are those of the last trial made, run's two
-- bytes differ on them, and agree on all trials before
pub record Finds (t : Trials) (r : Routine) (line made : ℕ) (bs : List ℕ) : Type 0 where
  pub first : FirstPlace r line
  pub trial : ℕ
  pub asked : trial < t.count
  pub count : made ≡ suc trial
  pub bytes : bs ≡ trial_at r t.start trial
  pub differ : result_at r bs ≢ joined_at r bs
  pub before : TrialsAgree r t.start trial

-- what an outcome claims of an accepted text; it is never refused
abbrev pub Claims : Trials → Routine → Outcome → Type 0
Claims t r (refused number line) = ⊥
Claims t r (equal i) = Equals r i
Claims t r (differs n i bs) = Differing r n i bs
Claims t r (unknown line made) = Unknowns t r line made
Claims t r (found line made bs) = Finds t r line made bs

-- what an outcome claims of a text, by what reading it gives: its refusal, or the claims on its routine
abbrev pub ClaimsOf : Trials → Reading → Outcome → Type 0
ClaimsOf t (Reading.refused number line) o = o ≡ refused number line
ClaimsOf t (Reading.accepted r) o = Claims t r o

-- what an outcome claims of a text, by whether some lent buffer is too short and too many trials are asked for:
-- refusal 1, then refusal 14, else the claims on the text
abbrev pub ClaimsIn : (short many : Bool) → Trials → Reading → Outcome → Type 0
ClaimsIn true many t g o = o ≡ refused 1 0
ClaimsIn false true t g o = o ≡ refused 14 0
ClaimsIn false false t g o = ClaimsOf t g o

-- the number and line with which a text is refused: 1 where a buffer is too short, 14 where too many trials are asked
-- for, else reading's
abbrev pub RefusedAs : (short many : Bool) → Reading → (number line : ℕ) → Type 0
RefusedAs true many g number line = (number ≡ 1) × (line ≡ 0)
RefusedAs false true g number line = (number ≡ 14) × (line ≡ 0)
RefusedAs false false (Reading.refused n l) number line = (number ≡ n) × (line ≡ l)
RefusedAs false false (Reading.accepted r) number line = ⊥

-- ---- the lent buffers, byte by byte

-- a work buffer after equal, differs, unknown and found: the first 65,280 bytes are zero, every other byte is unchanged
pub record Cleared (w w' : List ℕ) : Type 0 where
  pub size : length w' ≡ length w
  pub front : (i : ℕ) → i < work_bytes → slice_index w' i ≡ 0
  pub behind : (i : ℕ) → work_bytes ≤ i → slice_index w' i ≡ slice_index w i

-- the byte list after differs and found: every byte after the first n is unchanged
pub record KeptBehind (n : ℕ) (l l' : List ℕ) : Type 0 where
  pub size : length l' ≡ length l
  pub behind : (i : ℕ) → n ≤ i → slice_index l' i ≡ slice_index l i
