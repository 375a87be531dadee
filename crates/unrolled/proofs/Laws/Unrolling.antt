-- Lines that are all taken, and their lines in the unrolled form, lead to what is alike. Assumes nothing.
use Prim.Native.Nat.{ℕ, ◌+◌}
use mathlib.Core.Path.{◌≡◌, refl, sym, ap, ◌∙◌, subst}
use mathlib.Core.List.{List, [], ◌∷◌, ◌++◌}
use Rattle.std.specs.Prelude.{Option, None as none, Some as some}
use lib.Dec.{eqb}
use lib.ListN.{length}
use Rattle.tokens.specs.declared.word.Word.{Word}
use Rattle.tokens.specs.Ascii.{tab}
use Rattle.tokens.specs.Split.{pieces}
use Rattle.tokens.proofs.Laws.Some.{some_same}
use Rattle.grammar.specs.Record.{Record, shares, map, input, origin, assign, letting, result, masked, output}
use Rattle.grammar.proofs.Laws.Made.{Made, made-shares, made-map, made-input, made-origin, made-assign, made_let}
use Rattle.grammar.proofs.Laws.Made.{made-result, made-masked, made-output, line_made}
use Rattle.rules.specs.declared.types.Statement.{Statement}
use Rattle.rules.specs.Order.{in_masked}
use Rattle.rules.specs.State.{State}
use Rattle.rules.specs.Read.{Outcome, next, take_line}
use Rattle.unrolled.specs.Unrolled.{record_of, lines_of, unrolled_lines, led}
use Rattle.rules.proofs.Laws.Keeping.{Passed}
use Rattle.unrolled.proofs.Laws.Steps.{leads_to, word_on, line_taken, taken-line}
use Rattle.unrolled.proofs.Laws.Runs.{runs, runs-first, runs-next, runs_none, runs_append}
use Rattle.rules.proofs.Laws.Limits.{Bounded}
use Rattle.unrolled.proofs.Laws.Bounded.{line-bounded}
use Rattle.unrolled.proofs.Laws.Load.{Plain}
use Rattle.unrolled.proofs.Laws.Blocks.{ops_of}
use Rattle.unrolled.proofs.Laws.Related.{renamed}
use Rattle.unrolled.proofs.Laws.Below.{Below, runs-below}
use Rattle.unrolled.proofs.Laws.Alike.{leads_alike}
use Rattle.rules.proofs.Laws.Letting.{each_append}
use Rattle.unrolled.proofs.Laws.Lets.{Unrolls, let_unrolls}

-- a line that is no `let` stays as it is
pub line_stays : (last s : State) (l : List ℕ) (o : Option Record) → Plain o → lines_of last s l o ≡ l ∷ []
unfolding lines_of
line_stays last s l none q = refl
line_stays last s l (some (shares k)) q = refl
line_stays last s l (some (map n c columns)) q = refl
line_stays last s l (some (input n)) q = refl
line_stays last s l (some origin) q = refl
line_stays last s l (some (assign n f)) q = refl
line_stays last s l (some (letting n f)) q = absurd q
line_stays last s l (some (result n)) q = refl
line_stays last s l (some masked) q = refl
line_stays last s l (some (output ns)) q = refl

module _ (last s : State) (os ms : List Statement) (eo : ops_of os ≡ ops_of s.origin.statements)
    (em : ops_of ms ≡ ops_of s.masked.statements) (K : Bounded s) (D : Bounded last) (n m : ℕ) (l : List ℕ)
    (B : Below last s) where
  -- another line
  other_unrolls : {w : Word} {r : Record} {c : ℕ} → Made w r c → Plain (some r) → record_of l ≡ some r → Passed s w r
      → Below last (leads_to s n w r)
      → ((q : State) → Passed q w r → take_line q (m + 1) l ≡ next (leads_to q (m + 1) w r))
      → Unrolls last (leads_to s n w r) (renamed last s os ms) m (lines_of last s l (some r))
  other_unrolls {w} {r} M q e p C take =
      let A = leads_alike last s os ms eo em B n (m + 1) M q p C in
      let g = renamed last s os ms in
      subst (Unrolls last (leads_to s n w r) g m) (sym (line_stays last s l (some r) q)) (record {
        led = leads_to g (m + 1) w r;
        taken = runs-next g m l [] (take g A.0) ∙ runs_none (leads_to g (m + 1) w r) (m + 1);
        related = A.1;
        plain = (subst Plain (sym e) q, tt);
      })

  -- a line
  made_unrolls : {w : Word} {r : Record} {c : ℕ} → Made w r c → record_of l ≡ some r → Passed s w r
      → Below last (leads_to s n w r)
      → ((q : State) → Passed q w r → take_line q (m + 1) l ≡ next (leads_to q (m + 1) w r))
      → Unrolls last (leads_to s n w r) (renamed last s os ms) m (lines_of last s l (some r))
  unfolding lines_of
  made_unrolls (made-shares h) e p C take = other_unrolls (made-shares h) tt e p C take
  made_unrolls (made-map h) e p C take = other_unrolls (made-map h) tt e p C take
  made_unrolls (made-input h k) e p C take = other_unrolls (made-input h k) tt e p C take
  made_unrolls (made-origin h) e p C take = other_unrolls (made-origin h) tt e p C take
  made_unrolls (made-assign h k i) e p C take = other_unrolls (made-assign h k i) tt e p C take
  made_unrolls (made_let {n = x} {f = f} h S) e p C take =
      let_unrolls last s os ms eo em B K D n m x f h S p C (eqb s.stage in_masked) refl
  made_unrolls (made-result h k) e p C take = other_unrolls (made-result h k) tt e p C take
  made_unrolls (made-masked h) e p C take = other_unrolls (made-masked h) tt e p C take
  made_unrolls (made-output h k) e p C take = other_unrolls (made-output h k) tt e p C take

-- a line that is taken, and its lines
line_unrolls : (last s t : State) (os ms : List Statement) → ops_of os ≡ ops_of s.origin.statements
    → ops_of ms ≡ ops_of s.masked.statements → Bounded s → Bounded last → (n m : ℕ) (l : List ℕ)
    → take_line s n l ≡ next t → Below last s → Below last t
    → Unrolls last t (renamed last s os ms) m (lines_of last s l (record_of l))
unfolding record_of
line_unrolls last s t os ms eo em K D n m l e B C =
    let T = line_taken s n l t e in
    let w = word_on l in
    let M = line_made (pieces tab l) T.made T.makes in
    let U = made_unrolls last s os ms eo em K D n m l B M T.makes T.passes
    (subst (Below last) (sym T.leads) C)
    (λ q P. taken-line q (m + 1) l (leads_to q (m + 1) w T.made) (record {
      bytes = T.bytes;
      made = T.made;
      makes = T.makes;
      passes = P;
      leads = refl;
    })) in
    subst (λ (o : Option Record). Unrolls last t (renamed last s os ms) m (lines_of last s l o)) (sym T.makes)
    (subst (λ (x : State). Unrolls last x (renamed last s os ms) m (lines_of last s l (some T.made))) T.leads U)

-- THEOREM: lines that are all taken, and their lines in the unrolled form
pub lines_unroll : (ls : List (List ℕ)) (last s : State) (os ms : List Statement)
    → ops_of os ≡ ops_of s.origin.statements → ops_of ms ≡ ops_of s.masked.statements
    → Bounded s → Bounded last → (n m : ℕ) → runs s n ls ≡ some last
    → Unrolls last last (renamed last s os ms) m (unrolled_lines last s n ls)
unfolding unrolled_lines runs led
lines_unroll [] last s os ms eo em K D n m e =
    subst (λ (t : State). Unrolls last t (renamed last s os ms) m []) (some_same e) (record {
      led = renamed last s os ms;
      taken = runs_none (renamed last s os ms) m;
      related = record { os = os; ms = ms; is = refl; origin = eo; masked = em };
      plain = tt;
    })
lines_unroll (l ∷ ls) last s os ms eo em K D n m e =
    let a = runs-first s last n l ls e in
    let t = a.0 in
    let U = line_unrolls last s t os ms eo em K D (n + 1) m l a.1 (runs-below last (l ∷ ls) s n e)
    (runs-below last ls t (n + 1) a.2) in
    let ks = lines_of last s l (record_of l) in
    let R = U.related in
    let W = lines_unroll ls last t R.os R.ms R.origin R.masked (line-bounded s t (n + 1) l K a.1) D
    (n + 1) (m + length ks) a.2 in
    let more = unrolled_lines last t (n + 1) ls in
    subst (λ (o : Outcome). Unrolls last last (renamed last s os ms) m (ks ++ unrolled_lines last (led s o) (n + 1) ls))
    (sym a.1) (record {
      led = W.led;
      taken = runs_append ks more (renamed last s os ms) U.led m U.taken
          ∙ ap (λ (q : State). runs q (m + length ks) more) R.is ∙ W.taken;
      related = W.related;
      plain = each_append (λ l. Plain (record_of l)) ks more U.plain W.plain;
    })
