-- The names above a line stand at the front of those behind the text: a record adds names at the end alone.
-- Assumes nothing.
use Prim.Native.Nat.{ℕ, ◌+◌, ◌-◌}
use mathlib.Core.Path.{◌≡◌, refl, sym, ap, ◌∙◌, subst}
use mathlib.Core.Bool.{Bool, true, false}
use mathlib.Core.List.{List, [], ◌∷◌, ◌++◌, append_assoc, append-nil}
use Rattle.std.specs.Prelude.{Some as some}
use lib.Dec.{eqb}
use lib.ListN.{length, replicate}
use Rattle.tokens.specs.declared.word.Word.{Word}
use Rattle.tokens.specs.Ascii.{tab}
use Rattle.tokens.specs.Split.{pieces}
use Rattle.tokens.specs.Token.{Name}
use Rattle.tokens.proofs.Laws.Some.{some_same}
use Rattle.grammar.specs.Formula.{Formula}
use Rattle.grammar.specs.Record.{Record, Form, assign, letting}
use Rattle.grammar.proofs.Laws.Made.{Made, made-shares, made-map, made-input, made-origin, made-assign, made_let}
use Rattle.grammar.proofs.Laws.Made.{made-result, made-masked, made-output, line_made}
use Rattle.rules.specs.Order.{in_masked}
use Rattle.rules.specs.State.{State}
use Rattle.rules.specs.Grown.{at_stage, with_shares, with_map, with_input, with_result, with_outputs}
use Rattle.rules.specs.Stated.{unnamed}
use Rattle.rules.specs.Scope.{drawn, share_names}
use Rattle.rules.specs.Added.{added}
use Rattle.unrolled.proofs.Laws.Set.{In, in_left}
use Rattle.unrolled.proofs.Laws.Steps.{leads_to, word_on, line_taken}
use Rattle.unrolled.proofs.Laws.Runs.{runs, runs-first}
use Rattle.unrolled.proofs.Laws.Blocks.{names_of, grown-names, drawing, statement_at, assign-adds}
use Rattle.unrolled.proofs.Laws.Blocks.{statements_at, let_adds}

-- the second has the names of the first, and more behind them
abbrev pub Longer : State → State → Type 0
Longer s t = (b : Bool) → (more : List Name) × (names_of b t ≡ names_of b s ++ more)

-- a stage has no names
pub stage-names : (b : Bool) (k : ℕ) (s : State) → names_of b (at_stage k s) ≡ names_of b s
unfolding names_of at_stage
stage-names true k s = refl
stage-names false k s = refl

-- nor has a variable
pub drawing-names : (b c : Bool) (k : ℕ) (s : State) → names_of b (drawing c k s) ≡ names_of b s
unfolding names_of drawing
drawing-names true true k s = refl
drawing-names true false k s = refl
drawing-names false true k s = refl
drawing-names false false k s = refl

-- names added to both
two-longer : (s t : State) (a c : List Name) → t.origin.names ≡ s.origin.names ++ a
    → t.masked.names ≡ s.masked.names ++ c → Longer s t
unfolding names_of
two-longer s t a c e f true = (c, f)
two-longer s t a c e f false = (a, e)

-- the same names
none-longer : (s t : State) → t.origin.names ≡ s.origin.names → t.masked.names ≡ s.masked.names → Longer s t
none-longer s t e f =
    two-longer s t [] [] (e ∙ sym (append-nil s.origin.names)) (f ∙ sym (append-nil s.masked.names))

-- what a statement adds
assign-longer : (s : State) (n k : ℕ) (x : Name) (f : Form) → Longer s (at_stage k (added n (assign x f) s))
assign-longer s n k x f b =
    let c = eqb s.stage in_masked in
    let g = grown-names c b (drawing c (drawn f) s) (x ∷ []) (statement_at c s n f ∷ []) in (
      g.0,
      stage-names b k (added n (assign x f) s) ∙ ap (names_of b) (assign-adds c s n x f refl) ∙ g.1
          ∙ ap (λ (l : List Name). l ++ g.0) (drawing-names b c (drawn f) s),
    )

-- what a `let` adds
let_longer : (s : State) (n k : ℕ) (x : Name) (f : Formula) → Longer s (at_stage k (added n (letting x f) s))
let_longer s n k x f b =
    let c = eqb s.stage in_masked in
    let sts = statements_at c s n f in
    let g = grown-names c b s (replicate (length sts - 1) unnamed ++ x ∷ []) sts in
    (g.0, stage-names b k (added n (letting x f) s) ∙ ap (names_of b) (let_adds c s n x f refl) ∙ g.1)

-- what a record adds
leads-longer : (s : State) (n : ℕ) {w : Word} {r : Record} {c : ℕ} → Made w r c → Longer s (leads_to s n w r)
unfolding at_stage added with_shares with_map with_input with_result with_outputs
leads-longer s n (made-shares h) = none-longer s _ refl refl
leads-longer s n (made-map h) = none-longer s _ refl refl
leads-longer s n (made-input {n = x} m h) = two-longer s _ (x ∷ []) (share_names x 0 s.shares) refl refl
leads-longer s n (made-origin h) = none-longer s _ refl refl
leads-longer s n (made-assign {n = x} {f = f} m t h) = assign-longer s n _ x f
leads-longer s n (made_let {n = x} {f = f} m t) = let_longer s n _ x f
leads-longer s n (made-result m h) = none-longer s _ refl refl
leads-longer s n (made-masked h) = none-longer s _ refl refl
leads-longer s n (made-output m h) = none-longer s _ refl refl

-- the names of each set stand at the front of those behind the text
abbrev pub Below : State → State → Type 0
Below last s = (b : Bool) → (more : List Name) × (names_of b s ++ more ≡ names_of b last)

-- a set holds what it held above
pub below_in : (last s : State) → Below last s → (b : Bool) (n : Name) → In n (names_of b s) → In n (names_of b last)
below_in last s B b n h = subst (In n) (B b).1 (in_left n (names_of b s) (B b).0 h)

below-longer : (last s t : State) → Longer s t → Below last t → Below last s
below-longer last s t L B b =
    let a = (L b).0 in
    let c = (B b).0 in (
      a ++ c,
      sym (append_assoc (names_of b s) a c) ∙ ap (λ (l : List Name). l ++ c) (sym (L b).1) ∙ (B b).1,
    )

-- THEOREM: above a line that is taken
pub runs-below : (last : State) (ls : List (List ℕ)) (s : State) (n : ℕ) → runs s n ls ≡ some last → Below last s
unfolding runs
runs-below last [] s n e b = ([], append-nil (names_of b s) ∙ ap (names_of b) (some_same e))
runs-below last (l ∷ ls) s n e b =
    let a = runs-first s last n l ls e in
    let T = line_taken s (n + 1) l a.0 a.1 in
    below-longer last s (leads_to s (n + 1) (word_on l) T.made)
    (leads-longer s (n + 1) (line_made (pieces tab l) T.made T.makes))
    (subst (Below last) (sym T.leads) (runs-below last ls a.0 (n + 1) a.2)) b
