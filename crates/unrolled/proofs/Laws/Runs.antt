-- Lines that are taken one after another, and accepted texts by them. Assumes nothing.
use Prim.Native.Nat.{ℕ, suc, ◌+◌}
use native.Mathlib.Omega.{arith}
use mathlib.Core.Path.{◌≡◌, refl, sym, ap, ap₂, ◌∙◌}
use mathlib.Core.Bool.{Bool, true, false, cond}
use mathlib.Core.List.{List, [], ◌∷◌, ◌++◌}
use Rattle.std.specs.Prelude.{Option, None as none, Some as some}
use lib.Dec.{eqb}
use lib.ListN.{length}
use borrow.Author.Tests.{eqb-true, eq-eqb}
use Rattle.rules.specs.Order.{at_end}
use Rattle.rules.specs.State.{State}
use Rattle.rules.specs.Read.{Routine, Reading, refused, accepted, Outcome, stop, next, take_line, routine, take_last}
use Rattle.rules.specs.Read.{follow, take_lines}
use Rattle.unrolled.specs.Unrolled.{led, behind_lines}
use Rattle.tokens.proofs.Laws.Some.{none-some, some_same}

-- what a line that is taken goes on to
unfoldable pub onward : Outcome → (State → Option State) → Option State
onward (stop e) k = none
onward (next t) k = k t

-- what is known behind the lines that follow line n, where each is taken
unfoldable pub runs : State → ℕ → List (List ℕ) → Option State
runs s n [] = some s
runs s n (l ∷ ls) = onward (take_line s (n + 1) l) (λ t. runs t (n + 1) ls)

-- one line more in front
pub runs-next : (s : State) {t : State} (n : ℕ) (l : List ℕ) (ls : List (List ℕ)) → take_line s (n + 1) l ≡ next t
    → runs s n (l ∷ ls) ≡ runs t (n + 1) ls
unfolding runs onward
runs-next s n l ls e = ap (λ (o : Outcome). onward o (λ t. runs t (n + 1) ls)) e

-- the first line is taken, and the others
pub runs-first : (s f : State) (n : ℕ) (l : List ℕ) (ls : List (List ℕ)) → runs s n (l ∷ ls) ≡ some f
    → (t : State) × (take_line s (n + 1) l ≡ next t) × (runs t (n + 1) ls ≡ some f)
unfolding runs onward
runs-first s f n l ls e = go (take_line s (n + 1) l) refl e
  where
    go : (o : Outcome) → take_line s (n + 1) l ≡ o → onward o (λ t. runs t (n + 1) ls) ≡ some f
        → (t : State) × (take_line s (n + 1) l ≡ next t) × (runs t (n + 1) ls ≡ some f)
    go (stop e) q h = none-some h
    go (next t) q h = (t, q, h)

-- no line
pub runs_none : (s : State) (n : ℕ) → runs s n [] ≡ some s
unfolding runs
runs_none s n = refl

-- lines, and lines behind them
pub runs_append : (ks ls : List (List ℕ)) (s t : State) (n : ℕ) → runs s n ks ≡ some t
    → runs s n (ks ++ ls) ≡ runs t (n + length ks) ls
unfolding runs
runs_append [] ls s t n e =
    let z : n ≡ n + 0 = omega arith in
    ap₂ {C = Option State} (λ (x : State) (m : ℕ). runs x m ls) (some_same e) z
runs_append (k ∷ ks) ls s t n e =
    let a = runs-first s t n k ks e in
    let z : n + 1 + length ks ≡ n + suc (length ks) = omega arith in
    runs-next s n k (ks ++ ls) a.1 ∙ runs_append ks ls a.0 t (n + 1) a.2 ∙ ap (λ (m : ℕ). runs t m ls) z

-- what is known behind lines that are all taken
pub runs-behind : (ls ks : List (List ℕ)) (s f : State) (n : ℕ) → runs s n ls ≡ some f
    → behind_lines s n (ls ++ ks) ≡ behind_lines f (n + length ls) ks
unfolding behind_lines runs led
runs-behind [] ks s f n e =
    let z : n ≡ n + 0 = omega arith in
    ap₂ {C = State} (λ (x : State) (m : ℕ). behind_lines x m ks) (some_same e) z
runs-behind (l ∷ ls) ks s f n e =
    let a = runs-first s f n l ls e in
    let z : n + 1 + length ls ≡ n + suc (length ls) = omega arith in
    ap (λ (o : Outcome). behind_lines (led s o) (n + 1) (ls ++ ks)) a.1
    ∙ runs-behind ls ks a.0 f (n + 1) a.2 ∙ ap (λ (m : ℕ). behind_lines f m ks) z

-- ---- accepted texts

-- a refusal is no routine
pub refused-accepted : {A : Type 0} {e n : ℕ} {r : Routine} → refused e n ≡ accepted r → A
refused-accepted {e = e} {n = n} {r = r} h = let z : ◌≡◌ {A = ℕ} 0 1 = cc in absurd (omega arith)

accepted-same : {q r : Routine} → accepted q ≡ accepted r → q ≡ r
accepted-same h = cc

-- lines that hold a routine: each is taken, an empty piece stands behind them, and the text is at its end
pub record Ended (s : State) (n : ℕ) (ls : List (List ℕ)) (r : Routine) : Type 0 where
  pub lines : List (List ℕ)
  pub last : State
  pub parts : ls ≡ lines ++ [] ∷ []
  pub taken : runs s n lines ≡ some last
  pub ends : last.stage ≡ at_end
  pub holds : r ≡ routine last (n + length lines)

last-ends : (s : State) (n : ℕ) (l : List ℕ) (r : Routine) → take_last s n l ≡ accepted r → Ended s n (l ∷ []) r
unfolding take_last
last-ends s n [] r e = go (eqb s.stage at_end) refl e
  where
    go : (b : Bool) → eqb s.stage at_end ≡ b → cond b (accepted (routine s n)) (refused 6 (n + 1)) ≡ accepted r
        → Ended s n ([] ∷ []) r
    go true q h =
        let z : n ≡ n + 0 = omega arith in
        record {
          lines = [];
          last = s;
          parts = refl;
          taken = runs_none s n;
          ends = eqb-true s.stage at_end q;
          holds = sym (accepted-same h) ∙ ap (routine s) z;
        }
    go false q h = refused-accepted h
last-ends s n (b ∷ l) r e = refused-accepted e

-- THEOREM: lines that are accepted
pub accepted-runs : (s : State) (n : ℕ) (ls : List (List ℕ)) (r : Routine) → take_lines s n ls ≡ accepted r
    → Ended s n ls r
unfolding take_lines follow
accepted-runs s n [] r e = refused-accepted e
accepted-runs s n (l ∷ []) r e = last-ends s n l r e
accepted-runs s n (l ∷ m ∷ ls) r e = go (take_line s (n + 1) l) refl e (λ t. accepted-runs t (n + 1) (m ∷ ls) r)
  where
    go : (o : Outcome) → take_line s (n + 1) l ≡ o
        → follow o (n + 1) (λ t. take_lines t (n + 1) (m ∷ ls)) ≡ accepted r
        → ((t : State) → take_lines t (n + 1) (m ∷ ls) ≡ accepted r → Ended t (n + 1) (m ∷ ls) r)
        → Ended s n (l ∷ m ∷ ls) r
    go (stop e) q h ih = refused-accepted h
    go (next t) q h ih =
        let E = ih t h in
        let z : n + 1 + length E.lines ≡ n + suc (length E.lines) = omega arith in
        record {
          lines = l ∷ E.lines;
          last = E.last;
          parts = ap (λ (x : List (List ℕ)). l ∷ x) E.parts;
          taken = runs-next s n l E.lines q ∙ E.taken;
          ends = E.ends;
          holds = E.holds ∙ ap (routine E.last) z;
        }

-- THEOREM: lines that are all taken up to the text's end are accepted
pub runs-accepted : (ls : List (List ℕ)) (s f : State) (n : ℕ) → runs s n ls ≡ some f → f.stage ≡ at_end
    → take_lines s n (ls ++ [] ∷ []) ≡ accepted (routine f (n + length ls))
unfolding take_lines follow take_last runs
runs-accepted [] s f n e h =
    let z : n ≡ n + 0 = omega arith in
    ap (λ (b : Bool). cond b (accepted (routine s n)) (refused 6 (n + 1)))
    (eq-eqb s.stage at_end (ap (λ (x : State). x.stage) (some_same e) ∙ h))
    ∙ ap₂ {C = Reading} (λ (x : State) (m : ℕ). accepted (routine x m)) (some_same e) z
runs-accepted (l ∷ ls) s f n e h =
    let a = runs-first s f n l ls e in
    let z : n + 1 + length ls ≡ n + suc (length ls) = omega arith in
    front ls ∙ ap (λ (o : Outcome). follow o (n + 1) (λ t. take_lines t (n + 1) (ls ++ [] ∷ []))) a.1
    ∙ runs-accepted ls a.0 f (n + 1) a.2 h ∙ ap (λ (m : ℕ). accepted (routine f m)) z
  where
    front : (ls : List (List ℕ)) → take_lines s n (l ∷ (ls ++ [] ∷ []))
        ≡ follow (take_line s (n + 1) l) (n + 1) (λ t. take_lines t (n + 1) (ls ++ [] ∷ []))
    front [] = refl
    front (m ∷ ls) = refl
