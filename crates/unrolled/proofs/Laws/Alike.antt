-- A record other than a `let` is taken alike where values without a name have free names and statements other lines.
-- Assumes nothing.
use Prim.Native.Nat.{ℕ, ◌+◌}
use mathlib.Core.Path.{◌≡◌, refl, sym, ap, ap₂, ◌∙◌, subst}
use mathlib.Core.Logic.{inl}
use mathlib.Core.Bool.{Bool, true, false, ◌||◌}
use mathlib.Core.List.{List, [], ◌∷◌, ◌++◌}
use Rattle.std.specs.Prelude.{Some as some}
use lib.Dec.{ltb, eqb}
use Rattle.tokens.specs.declared.word.Word.{Word}
use Rattle.tokens.specs.Token.{Name}
use Rattle.tokens.proofs.Laws.Written.{Named}
use Rattle.grammar.specs.Record.{Record, Form, assign}
use Rattle.grammar.proofs.Laws.Written.{SpeltForm}
use Rattle.grammar.proofs.Laws.Made.{Made, made-shares, made-map, made-input, made-origin, made-assign, made_let}
use Rattle.grammar.proofs.Laws.Made.{made-result, made-masked, made-output}
use Rattle.rules.specs.declared.types.Op.{Op}
use Rattle.rules.specs.declared.types.Statement.{Statement}
use Rattle.rules.specs.Limits.{most_variables, most_statements}
use Rattle.rules.specs.Order.{in_masked}
use Rattle.rules.specs.State.{State}
use Rattle.rules.specs.Grown.{at_stage, with_shares, with_map, with_input, with_result, with_outputs}
use Rattle.rules.specs.Scope.{given, unknown_form, drawn}
use Rattle.rules.specs.Faults.{block, repeats, reads_unknown, exceeds, miscounts}
use Rattle.rules.specs.Scope.{share_names, op_in}
use Rattle.rules.specs.Added.{added}
use Rattle.unrolled.proofs.Laws.Set.{In, in_left, in_right}
use Rattle.unrolled.proofs.Laws.Filled.{filled, Off, given-filled}
use Rattle.unrolled.proofs.Laws.Reading.{missing-filled, place_read, form-known, form-read, names-known}
use Rattle.unrolled.proofs.Laws.Reading.{names_read_lem}
use Rattle.rules.proofs.Laws.Keeping.{Passed}
use Rattle.unrolled.proofs.Laws.Steps.{leads_to}
use Rattle.unrolled.proofs.Laws.Load.{Plain}
use Rattle.unrolled.proofs.Laws.Blocks.{resting, names_of, grown, grown-own, ops_of, block_names_lem, drawing}
use Rattle.unrolled.proofs.Laws.Blocks.{statement_at, assign-adds}
use Rattle.unrolled.proofs.Laws.Related.{off_used, filled_more, one-named, shares-named, free_of, renamed}
use Rattle.unrolled.proofs.Laws.Related.{renamed-names, Related, related-count, grown-related}
use Rattle.unrolled.proofs.Laws.Below.{Below, below_in, stage-names, drawing-names}

-- what is known at another stage, or with more variables
stage-related : (last t q : State) (k : ℕ) → Related last t q → Related last (at_stage k t) (at_stage k q)
unfolding at_stage renamed resting
stage-related last t q k R = record {
  os = R.os;
  ms = R.ms;
  is = ap (at_stage k) R.is;
  origin = R.origin;
  masked = R.masked;
}

drawing-related : (last t q : State) (b : Bool) (k : ℕ) → Related last t q
    → Related last (drawing b k t) (drawing b k q)
unfolding drawing renamed resting
drawing-related last t q true k R = record {
  os = R.os;
  ms = R.ms;
  is = ap (drawing true k) R.is;
  origin = R.origin;
  masked = R.masked;
}
drawing-related last t q false k R = R

module _ (last s : State) (os ms : List Statement) (eo : ops_of os ≡ ops_of s.origin.statements)
    (em : ops_of ms ≡ ops_of s.masked.statements) (B : Below last s) where
  -- the second of the two
  abbrev other : State
  other = renamed last s os ms

  -- they are related
  pub here-related : Related last s (renamed last s os ms)
  here-related = record { os = os; ms = ms; is = refl; origin = eo; masked = em }

  -- a name that a set holds above the line is no free name
  pub off_here : (b : Bool) (n : Name) → Named n → In n (names_of b s) → Off (free_of last b) n
  off_here b n h i = off_used (names_of b last) n h (below_in last s B b n i)

  -- no refusal stops a statement
  assign-passes : (b : Bool) (w : Word) (x : Name) (f : Form) → eqb s.stage in_masked ≡ b → Off (free_of last b) x
      → SpeltForm f → Passed s w (assign x f) → Passed other w (assign x f)
  unfolding repeats reads_unknown exceeds miscounts renamed resting
  assign-passes b w x f e o F p =
      let free = free_of last b in
      let ns = names_of b s in
      let here = block_names_lem b s e in
      let there : (block other).names ≡ filled free 0 ns = block_names_lem b other e ∙ renamed-names last b s os ms in
      record {
        shallow = p.shallow;
        stands = p.stands;
        fresh = ap (given x) there ∙ given-filled free x o 0 ns ∙ sym (ap (given x) here) ∙ p.fresh;
        known = ap (λ (l : List Name). unknown_form l s.map_names f) there
            ∙ form-known free ns (off_here b) s.map_names f F
            (sym (ap (λ (l : List Name). unknown_form l s.map_names f) here) ∙ p.known);
        within = ap (λ (i : ℕ). ltb most_statements (i + 1) || ltb most_variables (s.variables + drawn f))
            (related-count last s other here-related) ∙ p.within;
        counted = p.counted;
      }

  -- what a statement leads to
  assign-related : (b : Bool) (n m k : ℕ) (x : Name) (f : Form) → eqb s.stage in_masked ≡ b → Named x → SpeltForm f
      → unknown_form (names_of b s) s.map_names f ≡ false
      → Related last (at_stage k (added n (assign x f) s)) (at_stage k (added m (assign x f) other))
  unfolding renamed resting
  assign-related b n m k x f e h F known =
      let free = free_of last b in
      let ns = names_of b s in
      let same : ops_of (statement_at b other m f ∷ []) ≡ ops_of (statement_at b s n f ∷ []) =
      ap (λ (o : Op). o ∷ []) (ap (λ (l : List Name). op_in l s.map_names s.variables f)
      (renamed-names last b s os ms) ∙ form-read free ns (off_here b) s.map_names s.variables f F known) in
      let grows : Related last (grown b (drawing b (drawn f) s) (x ∷ []) (statement_at b s n f ∷ []))
      (grown b (drawing b (drawn f) other) (x ∷ []) (statement_at b other m f ∷ [])) =
      grown-related last b (drawing b (drawn f) s) (drawing b (drawn f) other) (x ∷ []) (x ∷ [])
      (statement_at b s n f ∷ []) (statement_at b other m f ∷ []) (drawing-related last s other b (drawn f) here-related)
      (filled_more free (names_of b (drawing b (drawn f) s)) (x ∷ []) (one-named x h)) same in
      subst (λ (t : State). Related last (at_stage k t) (at_stage k (added m (assign x f) other)))
      (sym (assign-adds b s n x f e))
      (subst (λ (t : State). Related last (at_stage k (grown b (drawing b (drawn f) s) (x ∷ [])
      (statement_at b s n f ∷ []))) (at_stage k t)) (sym (assign-adds b other m x f e))
      (stage-related last _ _ k grows))

  -- a statement
  assign_alike : (n m k : ℕ) (w : Word) (x : Name) (f : Form) → Named x → SpeltForm f → Passed s w (assign x f)
      → Below last (at_stage k (added n (assign x f) s))
      → Passed other w (assign x f)
      × Related last (at_stage k (added n (assign x f) s)) (at_stage k (added m (assign x f) other))
  unfolding reads_unknown
  assign_alike n m k w x f h F p D =
      let b = eqb s.stage in_masked in
      let ns = names_of b s in
      let t = added n (assign x f) s in
      let own : names_of b (at_stage k t) ≡ ns ++ x ∷ [] =
      stage-names b k t ∙ ap (names_of b) (assign-adds b s n x f refl)
      ∙ grown-own b (drawing b (drawn f) s) (x ∷ []) (statement_at b s n f ∷ [])
      ∙ ap (λ (l : List Name). l ++ x ∷ []) (drawing-names b b (drawn f) s) in
      let used : In x (names_of b last) =
      below_in last (at_stage k t) D b x (subst (In x) (sym own) (in_right x ns (x ∷ []) (inl refl))) in (
        assign-passes b w x f refl (off_used (names_of b last) x h used) F p,
        assign-related b n m k x f refl h F
            (sym (ap (λ (l : List Name). unknown_form l s.map_names f) (block_names_lem b s refl)) ∙ p.known),
      )

  -- a record that adds no statement, and is stopped in both or in neither
  same_alike : (w : Word) (r : Record) (t q : State) → Passed s w r → repeats other r ≡ repeats s r
      → reads_unknown other r ≡ reads_unknown s r → exceeds other r ≡ exceeds s r → miscounts other r ≡ miscounts s r
      → q ≡ renamed last t os ms → ops_of os ≡ ops_of t.origin.statements → ops_of ms ≡ ops_of t.masked.statements
      → Passed other w r × Related last t q
  unfolding renamed resting
  same_alike w r t q p a b c d e origin masked = (
    record {
      shallow = p.shallow;
      stands = p.stands;
      fresh = a ∙ p.fresh;
      known = b ∙ p.known;
      within = c ∙ p.within;
      counted = d ∙ p.counted;
    },
    record { os = os; ms = ms; is = e; origin = origin; masked = masked },
  )

  -- THEOREM: a record other than a `let` is taken alike
  pub leads_alike : (n m : ℕ) {w : Word} {r : Record} {c : ℕ} → Made w r c → Plain (some r) → Passed s w r
      → Below last (leads_to s n w r)
      → Passed (renamed last s os ms) w r × Related last (leads_to s n w r) (leads_to (renamed last s os ms) m w r)
  unfolding at_stage added with_shares with_map with_input with_result with_outputs renamed resting repeats reads_unknown
      exceeds miscounts names_of
  leads_alike n m {w} {r} (made-shares h) q p D =
      same_alike w r _ _ p refl refl refl refl refl eo em
  leads_alike n m {w} {r} (made-map h) q p D =
      same_alike w r _ _ p refl refl refl refl refl eo em
  leads_alike n m {w} {r} (made-input {n = x} h l) q p D =
      let ns : List Name = s.origin.names in
      let k = (leads_to s n w r).stage in
      let parts : List Name = share_names x 0 s.shares in
      let off = off_used last.origin.names x h (subst (In x) (D false).1
      (in_left x (ns ++ x ∷ []) (D false).0 (in_right x ns (x ∷ []) (inl refl)))) in
      same_alike w r _ _ p (given-filled (free_of last false) x off 0 ns) refl refl refl
      (ap₂ {C = State} (λ (a b : List Name). resting (at_stage k (with_input x parts s)) a os b ms)
      (filled_more (free_of last false) ns (x ∷ []) (one-named x h))
      (filled_more (free_of last true) s.masked.names parts (shares-named x h 0 s.shares))) eo em
  leads_alike n m {w} {r} (made-origin h) q p D =
      same_alike w r _ _ p refl refl refl refl refl eo em
  leads_alike n m {w} (made-assign {n = x} {f = f} h F l) q p D = assign_alike n m _ w x f h F p D
  leads_alike n m (made_let h F) q p D = absurd q
  leads_alike n m {w} {r} (made-result {n = x} h l) q p D =
      let k = (leads_to s n w r).stage in
      let known = missing-filled (free_of last false) s.origin.names (off_here false) x h p.known in
      same_alike w r _ _ p refl (known ∙ sym p.known) refl refl
      (ap (λ (i : ℕ). renamed last (at_stage k (with_result i s)) os ms)
      (place_read (free_of last false) s.origin.names (off_here false) x h p.known)) eo em
  leads_alike n m {w} {r} (made-masked h) q p D =
      same_alike w r _ _ p refl refl refl refl refl eo em
  leads_alike n m {w} {r} (made-output {ns = xs} h l) q p D =
      let k = (leads_to s n w r).stage in
      let known = names-known (free_of last true) s.masked.names (off_here true) xs h p.known in
      same_alike w r _ _ p refl (known ∙ sym p.known) refl refl
      (ap (λ (is : List ℕ). renamed last (at_stage k (with_outputs is s)) os ms)
      (names_read_lem (free_of last true) s.masked.names (off_here true) xs h p.known)) eo em
