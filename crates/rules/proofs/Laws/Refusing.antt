-- THEOREM: a refused text has one of the refusals 2 to 10 of the table, or 13. Assumes nothing.
use mathlib.Core.Path.{◌≡◌, refl}
use mathlib.Core.Logic.{◌⊎◌, inl, inr}
use Prim.Native.Nat.{ℕ, zero, suc, ◌+◌, ◌≤◌}
use native.Mathlib.Omega.{arith}
use mathlib.Core.Bool.{Bool, true, false, not, cond}
use mathlib.Core.List.{List, [], ◌∷◌}
use Rattle.std.specs.Prelude.{Option, None as none, Some as some}
use lib.Dec.{ltb, eqb}
use lib.ListN.{length}
use Rattle.tokens.specs.declared.word.Word.{Word}
use Rattle.tokens.specs.Ascii.{all, allowed, tab, line_feed}
use Rattle.tokens.specs.Byte.{Each}
use Rattle.tokens.specs.Split.{pieces}
use Rattle.grammar.specs.Record.{Record, field, record_for, nests}
use Rattle.tokens.specs.Word.{word_of}
use Rattle.rules.specs.Limits.{most_bytes}
use Rattle.rules.specs.Order.{may_stand, stage_after, at_end}
use Rattle.rules.specs.State.{State, start}
use Rattle.rules.specs.Grown.{at_stage}
use Rattle.rules.specs.Faults.{repeats, reads_unknown, exceeds, miscounts}
use Rattle.rules.specs.Added.{added}
use Rattle.rules.specs.Read.{Reading, refused, accepted, Fault, first_of, Outcome, stop, next, unless}
use Rattle.rules.specs.Read.{take_record, take_pieces, take_line, routine, take_last, follow, take_lines, read_text}

-- a number of the table that a text can have
abbrev pub InTable : ℕ → Type 0
InTable e = (2 ≤ e) × ((e ≤ 10) ⊎ (e ≡ 13))

-- a refusal has a number of the table
abbrev pub Numbered : Reading → Type 0
Numbered (refused e n) = InTable e
Numbered (accepted r) = Unit {0}

abbrev Stops : Outcome → Type 0
Stops (stop e) = InTable e
Stops (next s) = Unit {0}

unless-stops : (e : ℕ) (s : State) → (e ≡ 0) ⊎ InTable e → Stops (unless e s)
unfolding unless
unless-stops zero s h = tt
unless-stops (suc e) s (inl z) = absurd (omega arith)
unless-stops (suc e) s (inr t) = t

first_in : (fs : List Fault) → Each (λ (f : Fault). InTable f.0) fs → (first_of fs ≡ 0) ⊎ InTable (first_of fs)
unfolding first_of
first_in [] h = inl refl
first_in (f ∷ fs) h = go f.1 (first_in fs h.1)
  where
    go : (b : Bool) → (first_of fs ≡ 0) ⊎ InTable (first_of fs)
        → (cond b f.0 (first_of fs) ≡ 0) ⊎ InTable (cond b f.0 (first_of fs))
    go true k = inr h.0
    go false k = k

record_stops : (s : State) (n : ℕ) (w : Word) (o : Option Record) → Stops (take_record s n w o)
unfolding take_record
record_stops s n w none = (omega arith, inl (omega arith))
record_stops s n w (some r) =
    let fs : List Fault =
    (13, nests r) ∷ (6, not (may_stand w s.stage)) ∷ (7, repeats s r) ∷ (8, reads_unknown s r) ∷ (9, exceeds s r)
    ∷ (10, miscounts s r) ∷ [] in
    unless-stops (first_of fs) (at_stage (stage_after w s.stage) (added n r s))
    (first_in fs (
      (omega arith, inr refl),
      (
        low 6 (omega arith) (omega arith),
        (
          low 7 (omega arith) (omega arith),
          (
            low 8 (omega arith) (omega arith),
            (
              low 9 (omega arith) (omega arith),
              (low 10 (omega arith) (omega arith), tt),
            ),
          ),
        ),
      ),
    ))
  where
    low : (e : ℕ) → 2 ≤ e → e ≤ 10 → InTable e
    low e h k = (h, inl k)

line-stops : (s : State) (n : ℕ) (l : List ℕ) → Stops (take_line s n l)
unfolding take_line take_pieces
line-stops s n l = go (all allowed l)
  where
    go : (b : Bool) → Stops (cond b (take_pieces s n (pieces tab l)) (stop 3))
    go true = let w = word_of (field 0 (pieces tab l)) in record_stops s n w (record_for w (pieces tab l))
    go false = (omega arith, inl (omega arith))

last-numbered : (s : State) (n : ℕ) (l : List ℕ) → Numbered (take_last s n l)
unfolding take_last
last-numbered s n [] = go (eqb s.stage at_end)
  where
    go : (b : Bool) → Numbered (cond b (accepted (routine s n)) (refused 6 (n + 1)))
    go true = tt
    go false = (omega arith, inl (omega arith))
last-numbered s n (b ∷ l) = go (all allowed (b ∷ l))
  where
    go : (t : Bool) → Numbered (refused (cond t 4 3) (n + 1))
    go true = (omega arith, inl (omega arith))
    go false = (omega arith, inl (omega arith))

lines-numbered : (s : State) (n : ℕ) (ls : List (List ℕ)) → Numbered (take_lines s n ls)
unfolding take_lines follow
lines-numbered s n [] = (omega arith, inl (omega arith))
lines-numbered s n (l ∷ []) = last-numbered s n l
lines-numbered s n (l ∷ m ∷ ls) =
    go (take_line s (n + 1) l) (line-stops s (n + 1) l) (λ t. lines-numbered t (n + 1) (m ∷ ls))
  where
    go : (o : Outcome) → Stops o → ((t : State) → Numbered (take_lines t (n + 1) (m ∷ ls)))
        → Numbered (follow o (n + 1) (λ t. take_lines t (n + 1) (m ∷ ls)))
    go (stop e) h ih = h
    go (next t) h ih = ih t

-- THEOREM
pub read-numbered : (text : List ℕ) → Numbered (read_text text)
unfolding read_text
read-numbered text = go (ltb most_bytes (length text))
  where
    go : (b : Bool) → Numbered (cond b (refused 2 0) (take_lines start 0 (pieces line_feed text)))
    go true = (omega arith, inl (omega arith))
    go false = lines-numbered start 0 (pieces line_feed text)
