-- The induction over a text: what holds at the start, and is kept by every record that no refusal stops, holds of the
-- routine of every accepted text.
-- Assumes nothing.
use mathlib.Core.Path.{◌≡◌, refl}
use Prim.Native.Nat.{ℕ, zero, suc, ◌+◌}
use native.Mathlib.Omega.{arith}
use mathlib.Core.Bool.{Bool, true, false, not, cond}
use mathlib.Core.List.{List, [], ◌∷◌}
use Rattle.std.specs.Prelude.{Option, None as none, Some as some}
use lib.Dec.{ltb, eqb}
use lib.ListN.{length}
use borrow.Author.Tests.{not-false, eqb-true}
use Rattle.tokens.specs.declared.word.Word.{Word}
use Rattle.tokens.specs.Ascii.{all, allowed, tab, line_feed}
use Rattle.tokens.specs.Split.{pieces}
use Rattle.grammar.specs.Record.{Record, field, record_for, nests}
use Rattle.tokens.specs.Word.{word_of}
use Rattle.rules.specs.Order.{may_stand, stage_after, at_end}
use Rattle.rules.specs.State.{State, start}
use Rattle.rules.specs.Grown.{at_stage}
use Rattle.rules.specs.Faults.{repeats, reads_unknown, exceeds, miscounts}
use Rattle.rules.specs.Added.{added}
use Rattle.rules.specs.Read.{Routine, Reading, refused, accepted, Fault, first_of, Outcome, stop, next, unless}
use Rattle.rules.specs.Read.{take_record, take_pieces, take_line, routine, take_last, follow, take_lines, read_text}
use Rattle.rules.specs.Limits.{most_bytes}
use Rattle.grammar.proofs.Laws.Holding.{Holds}
use Rattle.grammar.proofs.Laws.Fits.{Fits, record_fits}

-- a record that no refusal stops
pub record Passed (s : State) (w : Word) (r : Record) : Type 0 where
  pub shallow : nests r ≡ false
  pub stands : may_stand w s.stage ≡ true
  pub fresh : repeats s r ≡ false
  pub known : reads_unknown s r ≡ false
  pub within : exceeds s r ≡ false
  pub counted : miscounts s r ≡ false

-- what holds of the routine, if the text is accepted
abbrev pub Accepts : (Routine → Type 0) → Reading → Type 0
Accepts P (refused e n) = Unit {0}
Accepts P (accepted r) = P r

-- what holds of the state behind a line, if it is not refused
abbrev Behind : (State → Type 0) → Outcome → Type 0
Behind P (stop e) = Unit {0}
Behind P (next s) = P s

unless-behind : (P : State → Type 0) (e : ℕ) (s : State) → (e ≡ 0 → P s) → Behind P (unless e s)
unfolding unless
unless-behind P zero s h = h refl
unless-behind P (suc e) s h = tt

-- where no fault is found, none is there
pub no_fault : (e : ℕ) (b : Bool) (fs : List Fault) → (e ≡ 0 → ⊥) → first_of ((e, b) ∷ fs) ≡ 0
    → (b ≡ false) × (first_of fs ≡ 0)
unfolding first_of
no_fault e true fs z h = absurd (z h)
no_fault e false fs z h = (refl, h)

-- the faults of a record in the order in which they count: 13 just after 5, then 6 to 10
abbrev pub faults : State → Word → Record → List Fault
faults s w r =
    (13, nests r) ∷ (6, not (may_stand w s.stage)) ∷ (7, repeats s r) ∷ (8, reads_unknown s r) ∷ (9, exceeds s r)
    ∷ (10, miscounts s r) ∷ []

-- a record without a fault
pub passed : (s : State) (w : Word) (r : Record) → first_of (faults s w r) ≡ 0 → Passed s w r
passed s w r z =
    let five : List Fault = (10, miscounts s r) ∷ [] in
    let four : List Fault = (9, exceeds s r) ∷ five in
    let three : List Fault = (8, reads_unknown s r) ∷ four in
    let two : List Fault = (7, repeats s r) ∷ three in
    let one : List Fault = (6, not (may_stand w s.stage)) ∷ two in
    let n = no_fault 13 (nests r) one (λ e. omega arith) z in
    let a = no_fault 6 (not (may_stand w s.stage)) two (λ e. omega arith) n.1 in
    let b = no_fault 7 (repeats s r) three (λ e. omega arith) a.1 in
    let c = no_fault 8 (reads_unknown s r) four (λ e. omega arith) b.1 in
    let d = no_fault 9 (exceeds s r) five (λ e. omega arith) c.1 in
    let f = no_fault 10 (miscounts s r) [] (λ e. omega arith) d.1 in
    record {
      shallow = n.0;
      stands = not-false (may_stand w s.stage) a.0;
      fresh = b.0;
      known = c.0;
      within = d.0;
      counted = f.0;
    }

module _ (P : State → Type 0) (Q : Routine → Type 0) (begins : P start)
    (keeps : (s : State) → P s → (n : ℕ) (w : Word) (r : Record) → Fits w r → Passed s w r
    → P (at_stage (stage_after w s.stage) (added n r s)))
    (ends : (s : State) → P s → (n : ℕ) → s.stage ≡ at_end → Q (routine s n)) where
  record_keeps : (s : State) → P s → (n : ℕ) (w : Word) (o : Option Record) → Holds (Fits w) o
      → Behind P (take_record s n w o)
  unfolding take_record
  record_keeps s p n w none h = tt
  record_keeps s p n w (some r) h =
      unless-behind P (first_of (faults s w r)) (at_stage (stage_after w s.stage) (added n r s))
      (λ z. keeps s p n w r h (passed s w r z))

  line_keeps : (s : State) → P s → (n : ℕ) (l : List ℕ) → Behind P (take_line s n l)
  unfolding take_line take_pieces
  line_keeps s p n l = go (all allowed l)
    where
      go : (b : Bool) → Behind P (cond b (take_pieces s n (pieces tab l)) (stop 3))
      go true =
          let w = word_of (field 0 (pieces tab l)) in
          record_keeps s p n w (record_for w (pieces tab l)) (record_fits w (pieces tab l))
      go false = tt

  last_keeps : (s : State) → P s → (n : ℕ) (l : List ℕ) → Accepts Q (take_last s n l)
  unfolding take_last
  last_keeps s p n [] = go (eqb s.stage at_end) refl
    where
      go : (b : Bool) → eqb s.stage at_end ≡ b → Accepts Q (cond b (accepted (routine s n)) (refused 6 (n + 1)))
      go true e = ends s p n (eqb-true s.stage at_end e)
      go false e = tt
  last_keeps s p n (b ∷ l) = tt

  lines_keep : (s : State) → P s → (n : ℕ) (ls : List (List ℕ)) → Accepts Q (take_lines s n ls)
  unfolding take_lines follow
  lines_keep s p n [] = tt
  lines_keep s p n (l ∷ []) = last_keeps s p n l
  lines_keep s p n (l ∷ m ∷ ls) =
      go (take_line s (n + 1) l) (line_keeps s p (n + 1) l) (λ t q. lines_keep t q (n + 1) (m ∷ ls))
    where
      go : (o : Outcome) → Behind P o → ((t : State) → P t → Accepts Q (take_lines t (n + 1) (m ∷ ls)))
          → Accepts Q (follow o (n + 1) (λ t. take_lines t (n + 1) (m ∷ ls)))
      go (stop e) k ih = tt
      go (next t) k ih = ih t k

  -- THEOREM
  pub read_keeps : (text : List ℕ) → Accepts Q (read_text text)
  unfolding read_text
  read_keeps text = go (ltb most_bytes (length text))
    where
      go : (b : Bool) → Accepts Q (cond b (refused 2 0) (take_lines start 0 (pieces line_feed text)))
      go true = tt
      go false = lines_keep start begins 0 (pieces line_feed text)
