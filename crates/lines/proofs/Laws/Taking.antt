-- The faults of a record, and what its step leads to. Assumes nothing.
use Rattle.rules.specs.declared.types.Op.{Op}
use Prim.Native.Nat.{ℕ, zero, suc, ◌+◌, ◌≤◌}
use native.Mathlib.Omega.{arith}
use mathlib.Core.Path.{◌≡◌, refl, sym, ◌∙◌, ap, subst}
use mathlib.Core.Bool.{Bool, true, false, not}
use mathlib.Core.List.{List, [], ◌∷◌}
use Rattle.std.specs.Prelude.{Option, None as none, Some as some}
use lib.ListN.{length, drop, length-drop}
use lib.Seq.{length-take-le}
use borrow.Author.Tests.{not-false}
use Rattle.lines.specs.declared.setting.Setting.{Setting}
use Rattle.lines.specs.declared.step.Put.TheVariants.{Nothing}
use Rattle.lines.specs.declared.limited.Limited.{Limited}
use Rattle.lines.specs.declared.step.Step.{Step}
use Rattle.std.specs.Prelude.{Result, Ok, Err}
use Rattle.tokens.specs.Refusal.{number}
use Rattle.tokens.specs.declared.refusal.Refusal.{Refusal}
use Rattle.tokens.specs.declared.refusal.Refusal.TheVariants.{ShortBuffer, LongText, StrangeByte, NoLineFeed, Form}
use Rattle.tokens.specs.declared.refusal.Refusal.TheVariants.{Order, NameTaken, UnknownName}
use Rattle.tokens.specs.declared.refusal.Refusal.TheVariants.{TooMany, OutputCount, ByteCount}
use Rattle.tokens.specs.declared.refusal.Refusal.TheVariants.{ListLength, TooDeep, TrialCount}
use Rattle.grammar.specs.declared.record.Rec.{Rec}
use Rattle.grammar.specs.Record.{Record, nests}
use Rattle.rules.specs.State.{State}
use Rattle.rules.specs.Faults.{repeats, reads_unknown, exceeds, miscounts, statement_count}
use Rattle.rules.specs.Added.{added}
use Rattle.rules.specs.Read.{stop, unless}
use Rattle.lines.specs.Known.{Arrays, Kept, kept, state_in, Sound, Sized}
use Rattle.lines.specs.Added.{Fits}
use Rattle.lines.specs.Stored.{LetsHeld, after}
use Rattle.lines.specs.Taken.{first_fault, fault_of, takes, outcome_in, Took, record_at, text_of, names_above}
use Rattle.rules.proofs.Laws.Keeping.{no_fault}

-- ---- faults

-- no fault: the record may stand, and the four tests fail
pub no_faults : (stands a b c d : Bool) {e : ℕ} → e ≡ first_fault stands a b c d → e ≡ 0
    → (stands ≡ true) × (a ≡ false) × (b ≡ false) × (c ≡ false) × (d ≡ false)
unfolding first_fault
no_faults stands a b c d q z =
    let p = no_fault 6 (not stands) ((7, a) ∷ (8, b) ∷ (9, c) ∷ (10, d) ∷ []) (λ e. omega arith) (sym q ∙ z) in
    let r = no_fault 7 a ((8, b) ∷ (9, c) ∷ (10, d) ∷ []) (λ e. omega arith) p.1 in
    let s = no_fault 8 b ((9, c) ∷ (10, d) ∷ []) (λ e. omega arith) r.1 in
    let t = no_fault 9 c ((10, d) ∷ []) (λ e. omega arith) s.1 in
    let u = no_fault 10 d [] (λ e. omega arith) t.1 in
    (not-false stands p.0, r.0, s.0, t.0, u.0)

-- the answers of the four tests are those of the definition
pub record Tested (st : State) (r : Record) (a b c d : Bool) : Type 0 where
  pub repeats : a ≡ repeats st r
  pub unknown : b ≡ reads_unknown st r
  pub exceeds : c ≡ exceeds st r
  pub miscounts : d ≡ miscounts st r
  pub shallow : nests r ≡ false

fault-told : (st : State) (stands : Bool) (r : Record) {e : ℕ} {a b c d : Bool} → e ≡ first_fault stands a b c d
    → Tested st r a b c d → e ≡ fault_of st stands r
unfolding fault_of
fault-told st stands r q T =
    q ∙ (λ i. first_fault stands (T.repeats i) (T.unknown i) (T.exceeds i) (T.miscounts i)) ∙ rw T.shallow

-- ---- steps

unless-some : (e : ℕ) (a : State) → (e ≡ 0 → ⊥) → stop e ≡ unless e a
unfolding unless
unless-some zero a h = absurd (h refl)
unless-some (suc e) a h = refl

-- a refusal has a number
pub number-some : (e : Refusal) → number e ≡ 0 → ⊥
number-some ShortBuffer z = omega arith
number-some LongText z = omega arith
number-some StrangeByte z = omega arith
number-some NoLineFeed z = omega arith
number-some Form z = omega arith
number-some Order z = omega arith
number-some NameTaken z = omega arith
number-some UnknownName z = omega arith
number-some TooMany z = omega arith
number-some OutputCount z = omega arith
number-some ByteCount z = omega arith
number-some ListLength z = omega arith
number-some TooDeep z = omega arith
number-some TrialCount z = omega arith

-- the state above a record, whatever the arrays hold
abbrev above : Setting → Arrays → State
above here x = state_in (text_of here) (kept (names_above here) here.held.known x)

-- a record as a match knows it
pub took_as : {codes : List Op} (here : Setting) {r q : Rec} → r ≡ q
    → {x : Result Step Refusal} → Took codes here (record_at here q) x → Took codes here (record_at here r) x
took_as {codes = codes} here e {x = x} =
    subst (λ (y : Rec). Took codes here (record_at here y) x) (sym e)

module _ (here : Setting) {o : Option Record} {codes : List Op} where
  -- a step as a match knows it
  pub took_is : {r x : Result Step Refusal} → r ≡ x → Took codes here o x → Took codes here o r
  took_is e = subst (λ (r : Result Step Refusal). Took codes here o r) (sym e)

  -- a field is not of its form
  pub took_bad : none ≡ o → Took codes here o (Err Form)
  unfolding outcome_in takes
  took_bad e =
      record {
        outcome = λ a z. ap (takes (above here a) here.number here.stands) e;
        step = tt;
      }

  module _ (q : Record) (read : some q ≡ o) where
    -- a refusal whose number is that of the record's fault
    faulty : (e : Refusal)
        → ((x : Arrays) → Sized (kept (names_above here) here.held.known x)
        → number e ≡ fault_of (above here x) here.stands q)
        → Took codes here o (Err e)
    unfolding outcome_in takes
    faulty e f =
        record {
          outcome = λ x y.
              let st = above here x in
              unless-some (number e) (added here.number q st) (number-some e)
              ∙ ap (λ (g : ℕ). unless g (added here.number q st)) (f x y)
              ∙ ap (takes st here.number here.stands) read;
          step = tt;
        }

    -- the record nests too deep
    pub took_deep : nests q ≡ true → Took codes here o (Err TooDeep)
    unfolding fault_of
    took_deep d = faulty TooDeep (λ x y. sym (simp d))

    module _ {a b c d : Bool}
        (T : (x : Arrays) → Sized (kept (names_above here) here.held.known x) → Tested (above here x) q a b c d) where
      -- the record has a fault
      pub took_fault : {e : Refusal} → number e ≡ first_fault here.stands a b c d → Took codes here o (Err e)
      took_fault {e = e} f =
          faulty e (λ x y. fault-told (above here x) here.stands q f (T x y))

      -- what the record adds is in the step
      pub took_grown : (r : Step) → 0 ≡ first_fault here.stands a b c d
          → r.held.known.stage ≡ here.held.known.stage → Fits here.held.known r.put
          → LetsHeld (text_of here) (names_above here) codes here.held.known r.put
          → ((x : Arrays) → Sized (kept (names_above here) here.held.known x)
          → state_in (text_of here)
          (after (text_of here) (kept (names_above here) here.held.known x) r.held.known r.put)
          ≡ added here.number q (above here x))
          → Took codes here o (Ok r)
      unfolding outcome_in takes unless
      took_grown r f g F W M =
          record {
            outcome = λ x y.
                let st = above here x in
                (λ i. unless (fault-told st here.stands q f (T x y) i) (M x y i))
                ∙ ap (takes st here.number here.stands) read;
            step = record {
              stage = g;
              fits = F;
              lets = W;
              stood = (no_faults here.stands a b c d f refl).0;
            };
          }

      -- the same where the step gives nothing but other numbers
      pub took_set : 0 ≡ first_fault here.stands a b c d
          → (h : Limited) → h.known.stage ≡ here.held.known.stage
          → ((x : Arrays) → state_in (text_of here) (kept (names_above here) h.known x)
          ≡ added here.number q (above here x))
          → Took codes here o (Ok (record { held = h; put = Nothing }))
      unfolding after
      took_set f h g M =
          took_grown (record { held = h; put = Nothing }) f g tt tt (λ x y. M x)

-- ---- counts

module _ (s : List ℕ) (h : Kept) (K : Sound h.known) (Z : Sized h) where
  -- as many maps as are counted
  pub maps-length : length (state_in s h).maps ≡ h.known.mapped
  unfolding state_in
  maps-length = length-take-le h.known.mapped h.arrays.maps (omega (arith, K.mapped, Z.maps))

  -- as many statements as are counted
  pub statements-length : statement_count (state_in s h) ≡ h.known.origin + h.known.masked
  unfolding state_in statement_count
  statements-length =
      let ss = h.arrays.statements in
      let n = h.known.origin in
      let m = h.known.masked in
      let room : n ≤ length ss = omega (arith, K.statements, Z.statements) in
      let rest : m ≤ length (drop n ss) = omega (arith, K.statements, Z.statements, length-drop n ss) in
      λ i. length-take-le n ss room i + length-take-le m (drop n ss) rest i
