-- How long a text without `let` can be: each line is paid for by what it adds to what is known, so that the limits
-- bound the whole. Assumes nothing.
use Prim.Native.Nat.{ℕ, ◌+◌, ◌*◌, ◌≤◌}
use native.Mathlib.Omega.{arith}
use mathlib.Core.Path.{◌≡◌, refl, ap, subst}
use mathlib.Core.Logic.{◌⊎◌, inl, inr}
use mathlib.Core.Bool.{Bool, true, false, ◌||◌, cond}
use mathlib.Core.List.{List, [], ◌∷◌}
use Rattle.std.specs.Prelude.{Option, None as none, Some as some}
use lib.Dec.{ltb, eqb}
use lib.ListN.{length, length-append}
use borrow.Author.Tests.{eqb-true}
use Rattle.tokens.specs.declared.word.Word.{Word}
use Rattle.tokens.specs.Token.{Name}
use Rattle.tokens.specs.Ascii.{tab}
use Rattle.tokens.specs.Byte.{Each}
use Rattle.tokens.specs.Split.{pieces}
use Rattle.grammar.specs.Record.{Record, Form, shares, map, input, origin, assign, letting, result, masked, output}
use Rattle.grammar.specs.Record.{set, xor, mul, app, rand}
use Rattle.rules.specs.declared.types.Statement.{Statement}
use Rattle.rules.specs.Order.{in_masked, stage_after}
use Rattle.rules.specs.State.{State}
use Rattle.rules.specs.Grown.{at_stage, with_shares, with_map, with_input, with_result}
use Rattle.rules.specs.Stated.{with_origin, with_masked}
use Rattle.rules.specs.Grown.{with_outputs}
use Rattle.rules.specs.Scope.{drawn, op_in}
use Rattle.rules.specs.Faults.{block}
use Rattle.rules.specs.Added.{added}
use Rattle.unrolled.specs.Unrolled.{record_of}
use Rattle.tokens.proofs.Laws.Some.{some_same}
use Rattle.tokens.proofs.Laws.Joined.{weight, pieces-weight}
use Rattle.grammar.proofs.Laws.Made.{Made, made-shares, made-map, made-input, made-origin, made-assign, made_let}
use Rattle.grammar.proofs.Laws.Made.{made-result, made-masked, made-output, line_made}
use Rattle.grammar.proofs.Laws.Written.{word_for}
use Rattle.rules.proofs.Laws.Keeping.{Passed}
use Rattle.unrolled.proofs.Laws.Steps.{leads_to, line_taken}
use Rattle.unrolled.proofs.Laws.Runs.{runs, runs-first}
use Rattle.rules.proofs.Laws.Limits.{Bounded}

-- no `let`
abbrev pub Plain : Option Record → Type 0
Plain none = Unit {0}
Plain (some (shares k)) = Unit {0}
Plain (some (map n c l)) = Unit {0}
Plain (some (input n)) = Unit {0}
Plain (some origin) = Unit {0}
Plain (some (assign n f)) = Unit {0}
Plain (some (letting n f)) = ⊥
Plain (some (result n)) = Unit {0}
Plain (some masked) = Unit {0}
Plain (some (output ns)) = Unit {0}

-- what the lines that stand once have paid for, up to a stage
stage_load : ℕ → ℕ
stage_load k =
    cond (ltb k 1) 0 (cond (ltb k 3) 9 (cond (ltb k 4) 16 (cond (ltb k 5) 38 (cond (ltb k 6) 45 172))))

-- what is known has paid for so many bytes
pub load : State → ℕ
load s =
    49 * (length s.origin.statements + length s.masked.statements) + 46 * length s.maps + 21 * s.inputs
    + stage_load s.stage

stage-most : (k : ℕ) → stage_load k ≤ 172
unfolding stage_load
stage-most k = go (ltb k 1) (ltb k 3) (ltb k 4) (ltb k 5) (ltb k 6)
  where
    go : (a b c d e : Bool)
        → cond a 0 (cond b 9 (cond c 16 (cond d 38 (cond e 45 172)))) ≤ 172
    go true b c d e = omega arith
    go false true c d e = omega arith
    go false false true d e = omega arith
    go false false false true e = omega arith
    go false false false false true = omega arith
    go false false false false false = omega arith

-- the most bytes of an accepted text without `let`
abbrev pub most_plain : ℕ
most_plain = 13168

-- the limits bound it
pub load-most : (s : State) → Bounded s → load s ≤ most_plain
unfolding load
load-most s K = omega (arith, K.statements, K.maps, K.inputs, stage-most s.stage)

-- one of two stages
two : (a b c : ℕ) → eqb a b || eqb a c ≡ true → (a ≡ b) ⊎ (a ≡ c)
two a b c h = go (eqb a b) refl h
  where
    go : (q : Bool) → eqb a b ≡ q → q || eqb a c ≡ true → (a ≡ b) ⊎ (a ≡ c)
    go true e h = inl (eqb-true a b e)
    go false e h = inr (eqb-true a c h)

nine : (a : ℕ) → (a ≡ 1) ⊎ (a ≡ 2) → stage_load a ≡ 9
unfolding stage_load
nine a (inl e) = ap stage_load e
nine a (inr e) = ap stage_load e

-- a statement leaves the stage as it is
pub stage-same : (f : Form) (k : ℕ) → stage_after (word_for f) k ≡ k
stage-same (set a) k = refl
stage-same (xor a b) k = refl
stage-same (mul a b) k = refl
stage-same (app f a) k = refl
stage-same rand k = refl

-- a statement pays for its line
assign-load : (s : State) (n k c : ℕ) (x : Name) (f : Form) → k ≡ s.stage → c ≤ 49
    → c + load s ≤ load (at_stage k (added n (assign x f) s))
unfolding load at_stage added with_masked with_origin
assign-load s n k c x f e h = go (eqb s.stage in_masked)
  where
    st : Statement
    st = record { op = op_in (block s).names s.map_names s.variables f; line = n }

    go : (t : Bool) → c + load s ≤ load (at_stage k (cond t (with_masked (drawn f) x st s) (with_origin x st s)))
    go true = omega (arith, ap stage_load e, length-append s.masked.statements (st ∷ []))
    go false = omega (arith, ap stage_load e, length-append s.origin.statements (st ∷ []))

-- a record that no refusal stops pays for its line
leads-load : (s : State) (n : ℕ) {w : Word} {r : Record} {c : ℕ} → Made w r c → Plain (some r) → Passed s w r
    → c + load s ≤ load (leads_to s n w r)
unfolding load stage_load at_stage added with_shares with_map with_input with_result with_outputs
leads-load s n (made-shares h) q p = omega (arith, ap stage_load (eqb-true s.stage 0 p.stands))
leads-load s n (made-map {k = k} {l = l} h) q p =
    omega (
      arith,
      ap stage_load (eqb-true s.stage 1 p.stands),
      length-append s.maps (record { constant = k; columns = l } ∷ []),
    )
leads-load s n (made-input m h) q p = omega (arith, nine s.stage (two s.stage 1 2 p.stands))
leads-load s n (made-origin h) q p = omega (arith, nine s.stage (two s.stage 1 2 p.stands))
leads-load s n (made-assign {n = x} {f = f} {c = c} m t h) q p =
    assign-load s n _ c x f (stage-same f s.stage) h
leads-load s n (made_let m t) q p = absurd q
leads-load s n (made-result m h) q p = omega (arith, ap stage_load (eqb-true s.stage 3 p.stands))
leads-load s n (made-masked h) q p = omega (arith, ap stage_load (eqb-true s.stage 4 p.stands))
leads-load s n (made-output m h) q p = omega (arith, ap stage_load (eqb-true s.stage 5 p.stands))

-- THEOREM: lines without `let` that are all taken are paid for
pub runs-load : (ls : List (List ℕ)) (s f : State) (n : ℕ) → Each (λ l. Plain (record_of l)) ls → runs s n ls ≡ some f
    → weight ls + load s ≤ load f
unfolding runs weight record_of
runs-load [] s f n q e = omega (arith, ap load (some_same e))
runs-load (l ∷ ls) s f n q e =
    let a = runs-first s f n l ls e in
    let T = line_taken s (n + 1) l a.0 a.1 in
    let m = line_made (pieces tab l) T.made T.makes in
    let k = leads-load s (n + 1) m (subst Plain T.makes q.0) T.passes in
    let ih = runs-load ls a.0 f (n + 1) q.1 a.2 in
    omega (arith, k, ih, ap load T.leads, pieces-weight tab l)
