-- The step of a statement: its faults, and what it adds, from what was found for its operands. Assumes nothing.
use Rattle.rules.specs.declared.types.Op.{Op}
use Rattle.grammar.specs.Record.{nests}
use Prim.Native.Nat.{ℕ, ◌+◌, ◌≤◌}
use native.Mathlib.Omega.{arith}
use mathlib.Core.Path.{◌≡◌, refl, sym, ◌∙◌, ap, subst}
use mathlib.Core.Bool.{Bool, true, false, ◌||◌, cond}
use mathlib.Core.List.{List}
use lib.Dec.{ltb, eqb}
use borrow.Author.Tests.{ltb-false}
use Rattle.grammar.specs.declared.line.NameRef.{NameRef}
use Rattle.grammar.specs.declared.record.FormRead.{FormRead}
use Rattle.tokens.specs.Token.{Name}
use Rattle.grammar.specs.Record.{Record, assign}
use Rattle.std.specs.Prelude.{Some as some}
use Rattle.grammar.specs.Line.{name_in}
use Rattle.grammar.specs.Recorded.{form_in}
use Rattle.lines.specs.declared.known.Known.{Known}
use Rattle.lines.specs.declared.setting.Setting.{Setting}
use Rattle.lookup.specs.declared.scope.FormFound.{FormFound}
use Rattle.lines.specs.declared.step.Put.{Put}
use Rattle.lines.specs.declared.step.Put.TheVariants.{Stated}
use Rattle.lines.specs.declared.limited.Limited.{Limited}
use Rattle.std.specs.Prelude.{Ok, Err}
use Rattle.tokens.specs.Refusal.{number}
use Rattle.tokens.specs.declared.refusal.Refusal.{Refusal}
use Rattle.lines.specs.Stage.{stage_of}
use Rattle.rules.specs.Order.{in_masked}
use Rattle.rules.specs.Stated.{with_origin, with_masked}
use Rattle.rules.specs.Scope.{given, unknown_form, op_in, drawn}
use Rattle.rules.specs.Faults.{block, repeats, reads_unknown, exceeds, miscounts}
use Rattle.rules.specs.Added.{added}
use Rattle.lines.specs.Known.{Arrays, kept, state_in, Sound, Sized, map_names, block_names}
use Rattle.lines.specs.Added.{StatementsFit, crowded, stated}
use Rattle.lines.specs.Known.{masked_names, origin_names}
use Rattle.lines.specs.Stored.{after}
use Rattle.rules.specs.Limits.{most_statements, most_variables}
use Rattle.lookup.specs.Found.{form_found}
use Rattle.lines.specs.Taken.{first_fault, Took, text_of, names_above}
use Rattle.tokens.proofs.Laws.Flags.{or_false}
use Rattle.lines.proofs.Laws.Known.{stated-sound, stated-stage}
use Rattle.lines.proofs.Laws.Block.{stated-means}
use Rattle.lines.proofs.Laws.Taking.{Tested, took_fault, took_grown, statements-length}

-- one statement more is within the limits
pub room : (k : Known) (m : ℕ) → crowded k m ≡ false → (StatementsFit k 1) × (k.variables + m ≤ most_variables)
room k m h =
    let many = k.origin + k.masked + 1 in
    let p = or_false (ltb most_statements many) (ltb most_variables (k.variables + m)) h in
    ((omega arith, ltb-false most_statements many p.0), ltb-false most_variables (k.variables + m) p.1)

-- the names of the block that a statement stands in
block-named : (s : List ℕ) (t : List NameRef) (k : Known) (a : Arrays) (b : Bool)
    → cond b (masked_names s t k) (origin_names s t k)
    ≡ (cond b (state_in s (kept t k a)).masked (state_in s (kept t k a)).origin).names
unfolding state_in
block-named s t k a true = refl
block-named s t k a false = refl

-- the names of the block, as the code has them
pub block_names_lem : (s : List ℕ) (t : List NameRef) (k : Known) (a : Arrays)
    → block_names s t k ≡ (block (state_in s (kept t k a))).names
unfolding block state_in
block_names_lem s t k a = block-named s t k a (eqb (stage_of k.stage) in_masked)

module _ (here : Setting) (x : NameRef) (f : FormRead)
    (r : FormFound) (ms : List Name) (b : ms ≡ block_names (text_of here) (names_above here) here.held.known)
    (q : r ≡ form_found ms (map_names (text_of here) (names_above here) here.held.known) here.held.known.variables
    (form_in (text_of here) f))
    {g m : Bool} (gq : g ≡ given (name_in (text_of here) x) ms) (mq : m ≡ crowded here.held.known r.drawn) where
  -- the text
  abbrev s : List ℕ
  s = text_of here

  -- the names of the lines above
  abbrev t : List NameRef
  t = names_above here

  abbrev k : Known
  k = here.held.known

  abbrev K : Sound k
  K = here.held.sound

  abbrev maps : List Name
  maps = map_names s t k

  abbrev statement : Record
  statement = assign (name_in s x) (form_in s f)

  drawn-is : r.drawn ≡ drawn (form_in s f)
  unfolding form_found
  drawn-is = ap (λ (y : FormFound). y.drawn) q

  tests : (a : Arrays) → Sized (kept t k a)
      → Tested (state_in s (kept t k a)) statement g r.unknown m false
  unfolding repeats reads_unknown exceeds miscounts state_in nests form_found
  tests a z =
      let same = b ∙ block_names_lem s t k a in
      record {
        repeats = gq ∙ ap (given (name_in s x)) same;
        unknown =
            ap (λ (y : FormFound). y.unknown) q ∙ ap (λ (ns : List Name). unknown_form ns maps (form_in s f)) same;
        exceeds = mq ∙ (λ i. ltb most_statements (sym (statements-length s (kept t k a) K z) i + 1)
            || ltb most_variables (k.variables + drawn-is i));
        miscounts = refl;
        shallow = refl;
      }

  -- the statement has a fault
  pub form-fault : {codes : List Op} {e : Refusal} → number e ≡ first_fault here.stands g r.unknown m false
      → Took codes here (some statement) (Err e)
  form-fault w = took_fault here statement
      refl tests w

  -- the statement, by places
  abbrev put : Put
  put = Stated x (record { op = r.op; line = here.number })

  grown : (a : Arrays) → Sized (kept t k a) → StatementsFit k 1 → stage_of k.stage ≤ in_masked
      → state_in s (after s (kept t k a) (stated k r.drawn 1) put)
      ≡ added here.number statement (state_in s (kept t k a))
  unfolding added state_in form_found
  grown a z fit low =
      let same = b ∙ block_names_lem s t k a in
      let op = ap (λ (y : FormFound). y.op) q
      ∙ ap (λ (ns : List Name). op_in ns maps k.variables (form_in s f)) same in
      stated-means s (kept t k a) K z x r.drawn (record { op = r.op; line = here.number }) fit low
      ∙ (λ i. cond (eqb (stage_of k.stage) in_masked)
      (with_masked (drawn-is i) (name_in s x) (record { op = op i; line = here.number }) (state_in s (kept t k a)))
      (with_origin (name_in s x) (record { op = op i; line = here.number }) (state_in s (kept t k a))))

  -- the statement is taken
  pub form-grown : {codes : List Op} → 0 ≡ first_fault here.stands g r.unknown m false
      → (StatementsFit k 1) × (k.variables + r.drawn ≤ most_variables)
      → stage_of k.stage ≤ in_masked → {h : Limited} → h.known ≡ stated k r.drawn 1
      → Took codes here (some statement) (Ok (record { held = h; put = put }))
  form-grown {codes} w fit low {h = h} e =
      took_grown here statement refl tests (record { held = h; put = put }) w
      (ap (λ (j : Known). j.stage) e ∙ stated-stage k K 1 fit.0 r.drawn (eqb (stage_of k.stage) in_masked)) fit.0 tt
      (λ a y. ap (λ (j : Known). state_in s (after s (kept t k a) j put)) e ∙ grown a y fit.0 low)

-- the counts behind the statement are within their limits
pub stated-limited : (h : Limited) (drawn : ℕ)
    → (StatementsFit h.known 1) × (h.known.variables + drawn ≤ most_variables)
    → {j : Known} → j ≡ stated h.known drawn 1 → Sound j
stated-limited h drawn fit e =
    subst Sound (sym e) (stated-sound h.known h.sound 1 fit.0 drawn fit.1 (eqb (stage_of h.known.stage) in_masked) refl)
