-- One statement by the rules: where the limit is exceeded, and that no value has more terms than its raw size.
-- Assumes nothing.
use mathlib.Core.Path.{◌≡◌, sym, ap, ◌∙◌}
use Prim.Native.Nat.{ℕ, ◌+◌, ◌-◌, ◌≤◌, ◌<◌}
use native.Mathlib.Omega.{arith}
use borrow.Author.Tests.{lt-ltb, le-ltb}
use mathlib.Core.Bool.{Bool, cond}
use mathlib.Core.List.{List, [], ◌∷◌, ◌++◌}
use Rattle.std.specs.Prelude.{Option, None as none, Some as some}
use lib.ListN.{length}
use Rattle.field.specs.Field.{Modulus}
use Rattle.field.specs.Laws.{gf}
use Rattle.field.specs.Maps.{coefficients_of}
use Rattle.field.proofs.Laws.Field.{gf_laws}
use Rattle.poly.specs.Poly.{Poly, variable}
use Rattle.poly.proofs.Laws.Size.{add-size, mul-size, map-size}
use Rattle.rules.specs.declared.types.Op.{Op}
use Rattle.rules.specs.declared.types.Op.TheVariants.{Set, Xor, Mul, App, Rand}
use Rattle.rules.specs.declared.types.Statement.{Statement}
use Rattle.rules.specs.declared.types.AffineMap.{AffineMap}
use Rattle.verdict.specs.Meaning.{map_at, operand, given, value_at}
use Rattle.verdict.specs.Instances.{polynomials}
use Rattle.verdict.specs.Count.{apply_size}
use Rattle.values.specs.declared.source.Scope.{Scope}
use Rattle.values.specs.Source.{variables_of}
use Rattle.values.specs.Raw.{raw_in, Inside}
use Rattle.survey.specs.Walk.{over_in, part}
use Rattle.values.proofs.Laws.Tables.{tabulate-at}

module _ (most m n : ℕ) (maps : List AffineMap) (xs vs : List Poly) (top : ℕ) (t : Statement)
    (ts : List Statement) where
  abbrev after : Option ℕ
  after =
      over_in most m n maps xs (vs ++ given (polynomials m n) maps xs vs t.op ∷ [])
      (top + length (given (polynomials m n) maps xs vs t.op)) ts

  -- the limit is exceeded at the first statement
  pub over-here : most < top + raw_in m n maps vs t.op → over_in most m n maps xs vs top (t ∷ ts) ≡ some t.line
  unfolding over_in
  over-here h = ap (λ (b : Bool). cond b (some t.line) after) (lt-ltb most (top + raw_in m n maps vs t.op) h)

  -- it is not, and the rest decides
  pub over-next : (v : Poly) (k : ℕ) → given (polynomials m n) maps xs vs t.op ≡ v → length v ≡ k
      → top + raw_in m n maps vs t.op ≤ most
      → over_in most m n maps xs (vs ++ v ∷ []) (top + k) ts ≡ over_in most m n maps xs vs top (t ∷ ts)
  unfolding over_in
  over-next v k e l h =
      sym (ap (λ (b : Bool). cond b (some t.line) after) (le-ltb most (top + raw_in m n maps vs t.op) h)
      ∙ ap (λ (u : Poly). over_in most m n maps xs (vs ++ u ∷ []) (top + length u) ts) e
      ∙ ap (λ (u : ℕ). over_in most m n maps xs (vs ++ v ∷ []) (top + u) ts) l)

-- a variable that is drawn has one term
drawn-small : (m n : ℕ) (s : Scope) (v : ℕ) → v < s.drawn
    → length (value_at (polynomials m n) (variables_of n s) v) ≤ 1
unfolding value_at variables_of polynomials
drawn-small m n s v h = rw (tabulate-at s.drawn (variable n) v [] h) (omega arith)

-- a value has no more terms than its raw size
pub given-small : (m n : ℕ) → Modulus m → (maps : List AffineMap) (s : Scope) (vs : List Poly) (o : Op)
    → Inside s.drawn o → length (given (polynomials m n) maps (variables_of n s) vs o) ≤ raw_in m n maps vs o
unfolding given raw_in polynomials apply_size
given-small m n M maps s vs (Set a) h = omega arith
given-small m n M maps s vs (Xor a b) h = add-size (gf m) (operand (polynomials m n) vs a)
    (operand (polynomials m n) vs b)
given-small m n M maps s vs (Mul a b) h = mul-size (gf m) (operand (polynomials m n) vs a)
    (operand (polynomials m n) vs b)
given-small m n M maps s vs (App f a) h =
    map-size (gf m) (gf_laws M) n (map_at maps f).constant (coefficients_of m (map_at maps f).columns)
    (operand (polynomials m n) vs a)
given-small m n M maps s vs (Rand v) h = drawn-small m n s v h

-- no statement is left
pub over_none : (most m n : ℕ) (maps : List AffineMap) (xs vs : List Poly) (top : ℕ) (l : List Statement) (to : ℕ)
    → over_in most m n maps xs vs top (part l to to) ≡ none
unfolding over_in
over_none most m n maps xs vs top l to = let e : to - to ≡ 0 = omega arith in rw e
