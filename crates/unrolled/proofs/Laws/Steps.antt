-- One line that is taken, and lines that are taken one after another. Assumes nothing.
use Prim.Native.Nat.{ℕ, zero, suc}
use native.Mathlib.Omega.{arith}
use mathlib.Core.Path.{◌≡◌, refl, ap, ◌∙◌}
use mathlib.Core.Bool.{Bool, true, false, cond}
use mathlib.Core.List.{List}
use Rattle.std.specs.Prelude.{Option, None as none, Some as some}
use Rattle.tokens.specs.declared.word.Word.{Word}
use Rattle.tokens.specs.Ascii.{all, allowed, tab}
use Rattle.tokens.specs.Split.{pieces}
use Rattle.tokens.specs.Word.{word_of}
use Rattle.grammar.specs.Record.{Record, field, record_for}
use Rattle.rules.specs.Order.{stage_after}
use Rattle.rules.specs.State.{State}
use Rattle.rules.specs.Grown.{at_stage}
use Rattle.rules.specs.Added.{added}
use Rattle.rules.specs.Read.{first_of, stop, next, unless, take_record, take_pieces, take_line}
use Rattle.rules.proofs.Laws.Keeping.{Passed, faults, passed}

-- ---- one line

-- what a record of a word leads to
abbrev pub leads_to : State → ℕ → Word → Record → State
leads_to s n w r = at_stage (stage_after w s.stage) (added n r s)

-- the word of a line
abbrev pub word_on : List ℕ → Word
word_on l = word_of (field 0 (pieces tab l))

-- a line that is taken: its bytes, its record, and what it leads to
pub record Taken (s : State) (n : ℕ) (l : List ℕ) (t : State) : Type 0 where
  pub bytes : all allowed l ≡ true
  pub made : Record
  pub makes : record_for (word_on l) (pieces tab l) ≡ some made
  pub passes : Passed s (word_on l) made
  pub leads : leads_to s n (word_on l) made ≡ t

stop-next : {A : Type 0} {e : ℕ} {t : State} → stop e ≡ next t → A
stop-next {e = e} {t = t} h = let z : ◌≡◌ {A = ℕ} 0 1 = cc in absurd (omega arith)

next-same : {s t : State} → next s ≡ next t → s ≡ t
next-same h = cc

none_passes : (s : State) (w : Word) (r : Record) → Passed s w r → first_of (faults s w r) ≡ 0
unfolding first_of
none_passes s w r p = rw (p.shallow, p.stands, p.fresh, p.known, p.within, p.counted)

unless-next : (e : ℕ) (s t : State) → unless e s ≡ next t → (e ≡ 0) × (s ≡ t)
unfolding unless
unless-next zero s t h = (refl, next-same h)
unless-next (suc e) s t h = stop-next h

-- THEOREM: what is known of a line that is taken
pub line_taken : (s : State) (n : ℕ) (l : List ℕ) (t : State) → take_line s n l ≡ next t → Taken s n l t
unfolding take_line take_pieces take_record
line_taken s n l t e = go (all allowed l) refl e
  where
    w : Word
    w = word_on l

    by : all allowed l ≡ true → (o : Option Record) → record_for w (pieces tab l) ≡ o → take_record s n w o ≡ next t
        → Taken s n l t
    by a none m h = stop-next h
    by a (some r) m h =
        let k = unless-next (first_of (faults s w r)) (leads_to s n w r) t h in
        record { bytes = a; made = r; makes = m; passes = passed s w r k.0; leads = k.1 }

    go : (b : Bool) → all allowed l ≡ b → cond b (take_pieces s n (pieces tab l)) (stop 3) ≡ next t → Taken s n l t
    go true a h = by a (record_for w (pieces tab l)) refl h
    go false a h = stop-next h

-- THEOREM: a line whose record no refusal stops is taken
pub taken-line : (s : State) (n : ℕ) (l : List ℕ) (t : State) → Taken s n l t → take_line s n l ≡ next t
unfolding take_line take_pieces take_record unless
taken-line s n l t k =
    let w = word_on l in
    let r = k.made in
    ap (λ (b : Bool). cond b (take_pieces s n (pieces tab l)) (stop 3)) k.bytes
    ∙ ap (take_record s n w) k.makes
    ∙ ap (λ (e : ℕ). unless e (leads_to s n w r)) (none_passes s w r k.passes)
    ∙ ap next k.leads
