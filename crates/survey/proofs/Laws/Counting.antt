-- A walk's test of the limit is the count of the rules: the first place over it, among the steps of a block and those
-- behind.
-- Assumes nothing.
use mathlib.Core.Path.{◌≡◌, refl, sym, ap, ap₂, ◌∙◌}
use Prim.Native.Nat.{ℕ, suc, ◌+◌}
use native.Mathlib.Omega.{arith}
use native.Mathlib.Nat.{add-zero, add_assoc}
use mathlib.Core.Bool.{Bool, true, false, cond}
use mathlib.Core.List.{List, [], ◌∷◌, ◌++◌, append_assoc}
use Rattle.std.specs.Prelude.{Option, None as none, Some as some}
use lib.Dec.{ltb}
use lib.ListN.{length, take, get_or, length-append}
use lib.Seq.{take-append_seam, get_or-append_seam}
use Rattle.poly.specs.Poly.{Poly}
use Rattle.rules.specs.declared.types.Statement.{Statement}
use Rattle.rules.specs.declared.types.AffineMap.{AffineMap}
use Rattle.rules.specs.Read.{Routine}
use Rattle.verdict.specs.Meaning.{Algebra, given, values}
use Rattle.verdict.specs.Instances.{polynomials, modulus_of, powers_of}
use Rattle.verdict.specs.Count.{Step, raw_size, block_steps, standing, first_over}
use Rattle.values.specs.Raw.{raw_in}
use Rattle.survey.specs.Walk.{over_in, top_in}
use Rattle.values.proofs.Laws.Sizes.{raw_size_of}

-- the first line, else the second
abbrev pub or_else : Option ℕ → Option ℕ → Option ℕ
or_else (some x) y = some x
or_else none y = y

-- the test looks at the numbers alone
pub first-same : (most : ℕ) (f g : ℕ → ℕ) (ss : List Step) → ((i : ℕ) → f i ≡ g i)
    → first_over most f ss ≡ first_over most g ss
unfolding first_over
first-same most f g [] h = refl
first-same most f g (s ∷ ss) h =
    ap₂ (λ (a : ℕ) (b : Option ℕ). cond (ltb most (a + s.raw)) (some s.line) b) (h 0)
    (first-same most (λ i. f (suc i)) (λ i. g (suc i)) ss (λ i. h (suc i)))

-- the values of a block begin with those that it begins with
values_extend : {X : Type 0} (A : Algebra X) (maps : List AffineMap) (xs vs : List X) (ss : List Statement)
    → (rest : List X) × (values A maps xs vs ss ≡ vs ++ rest)
unfolding values
values_extend {X} A maps xs vs [] = ([], sym (append_nil vs))
  where
    append_nil : (l : List X) → l ++ [] ≡ l
    append_nil [] = refl
    append_nil (x ∷ l) = ap {B = List X} (λ r. x ∷ r) (append_nil l)
values_extend {X} A maps xs vs (s ∷ ss) =
    let v = given A maps xs vs s.op in
    let h = values_extend A maps xs (vs ++ v ∷ []) ss in
    (v ∷ h.0, h.1 ∙ append_assoc vs (v ∷ []) h.0)

module _ (r : Routine) (xs : List Poly) (most : ℕ) where
  abbrev m : ℕ
  m = modulus_of r

  abbrev n : ℕ
  n = powers_of r

  -- what stands at place i, above `top`
  abbrev pub above : ℕ → List Step → ℕ → ℕ
  above top ss i = top + standing r ss i

  above_more : (top : ℕ) (s : Step) (ss : List Step) (i : ℕ) → above top (s ∷ ss) (suc i) ≡ above (top + s.size) ss i
  unfolding standing
  above_more top s ss i = sym (add_assoc top s.size (standing r ss i))

  over-step : (b : Bool) (line : ℕ) (x y z : Option ℕ) → x ≡ or_else y z
      → cond b (some line) x ≡ or_else (cond b (some line) y) z
  over-step true line x y z h = refl
  over-step false line x y z h = h

  -- one statement, where the values vs begin with cur and then its own
  module _ (s : Statement) (cur rest vs : List Poly) (at : ℕ) (l : length cur ≡ at)
      (whole : vs ≡ cur ++ given (polynomials m n) r.maps xs cur s.op ∷ rest) where
    abbrev own : Poly
    own = given (polynomials m n) r.maps xs cur s.op

    -- its step
    abbrev here : Step
    here = record { line = s.line; raw = raw_size r (take at vs) s.op; size = length (get_or vs at []) }

    here-raw : here.raw ≡ raw_in m n r.maps cur s.op
    here-raw =
        let e : take at vs ≡ cur =
        ap₂ (λ (k : ℕ) (u : List Poly). take k u) (sym l) whole ∙ take-append_seam cur (own ∷ rest) in
        ap (λ (u : List Poly). raw_size r u s.op) e ∙ raw_size_of r cur s.op

    here-size : here.size ≡ length own
    here-size =
        ap length (ap₂ (λ (k : ℕ) (u : List Poly). get_or u k []) (sym l) whole ∙ get_or-append_seam cur own rest [])

    -- what stands behind it
    here-behind : (top : ℕ) (steps : List Step)
        → first_over most (λ i. above top (here ∷ steps) (suc i)) steps
        ≡ first_over most (above (top + length own) steps) steps
    here-behind top steps =
        first-same most _ _ steps (λ i. above_more top here steps i ∙ ap (λ (k : ℕ). above (top + k) steps i) here-size)

  -- the steps of a block, and the steps behind it
  pub over-block : (ss : List Statement) (cur vs : List Poly) → values (polynomials m n) r.maps xs cur ss ≡ vs
      → (at : ℕ) → length cur ≡ at → (top : ℕ) (more : List Step)
      → first_over most (above top (block_steps r vs at ss ++ more)) (block_steps r vs at ss ++ more)
      ≡ or_else (over_in most m n r.maps xs cur top ss)
      (first_over most (above (top_in m n r.maps xs cur top ss) more) more)
  unfolding over_in top_in block_steps first_over standing values
  over-block [] cur vs h at l top more = refl
  over-block (s ∷ ss) cur vs h at l top more =
      let v = given (polynomials m n) r.maps xs cur s.op in
      let e = values_extend (polynomials m n) r.maps xs (cur ++ v ∷ []) ss in
      let whole : vs ≡ cur ++ v ∷ e.0 = sym h ∙ e.1 ∙ append_assoc cur (v ∷ []) e.0 in
      let next : length (cur ++ v ∷ []) ≡ suc at = omega (arith, length-append cur (v ∷ [])) in
      ap₂ (λ (a : ℕ) (x : Option ℕ). cond (ltb most a) (some s.line) x)
      (ap₂ (λ (a b : ℕ). a + b) (add-zero top) (here-raw s cur e.0 vs at l whole))
      (here-behind s cur e.0 vs at l whole top (block_steps r vs (suc at) ss ++ more))
      ∙ over-step (ltb most (top + raw_in m n r.maps cur s.op)) s.line _ _ _
      (over-block ss (cur ++ v ∷ []) vs h (suc at) next (top + length v) more)
