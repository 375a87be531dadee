-- What was read as an operation is made of its parts. Assumes nothing.
use Prim.Native.Nat.{ℕ, suc, ◌+◌, ◌≤◌}
use mathlib.Core.Path.{◌≡◌, refl, sym}
use mathlib.Core.Bool.{Bool, true, false}
use mathlib.Core.List.{List, [], ◌∷◌}
use Rattle.std.specs.Prelude.{Option, None as none, Some as some}
use Rattle.std.proofs.lemmas.Option.{same_Some as some-injective}
use native.Mathlib.Omega.{arith}
use lib.Dec.{eqb}
use lib.ListN.{length, drop}
use Rattle.tokens.specs.Ascii.{comma, closing}
use Rattle.tokens.specs.Token.{◌>>=◌, provided}
use Rattle.grammar.specs.Formula.{Formula, Parsed, operations}
use Rattle.grammar.specs.Formula.{past, closed, pair_at, parsed}
use Rattle.rules.specs.Limits.{most_statements}
use Rattle.lookup.specs.Compiled.{Room}

-- a byte m stands in front of t
pub past-some : (m : ℕ) (u t : List ℕ) → past m u ≡ some t → (t ≡ drop 1 u) × (1 ≤ length u)
unfolding past
past-some m [] t e = let z : ◌≡◌ {A = ℕ} 0 1 = cc in absurd (omega arith)
past-some m (b ∷ s) t e = go (eqb b m) e
  where
    go : (q : Bool) → provided q s ≡ some t → (t ≡ s) × (1 ≤ suc (length s))
    go true p = (cc, omega arith)
    go false p = let z : ◌≡◌ {A = ℕ} 0 1 = cc in absurd (omega arith)

-- the parts of what an operation reads behind its (
pub record PairIs {A : Type 0} (g : A → Formula → Formula) (o : Option (A × List ℕ)) (p : Parsed) : Type 0 where
  pub first : A
  pub u : List ℕ
  pub t : List ℕ
  pub second : Formula
  pub v : List ℕ
  pub w : List ℕ
  pub read : o ≡ some (first, u)
  pub comma : past comma u ≡ some t
  pub nested : parsed t ≡ some (second, v)
  pub close : past closing v ≡ some w
  pub whole : p ≡ (g first second, w)

abbrev closed_by : {A : Type 0} → A → Option (List ℕ) → Option (A × List ℕ)
closed_by a z = z >>= λ w. some (a, w)

abbrev paired_by : {A : Type 0} → (A → Formula → Formula) → A → Option Parsed → Option Parsed
paired_by g a y = y >>= λ c. some (g a c.0, c.1)

module _ {A : Type 0} (g : A → Formula → Formula) (p : Parsed) (a : A × List ℕ) where
  view_close : (t : List ℕ) → past comma a.1 ≡ some t → (b : Parsed) → parsed t ≡ some b → (z : Option (List ℕ))
      → past closing b.1 ≡ z → paired_by g a.0 (closed_by b.0 z) ≡ some p → PairIs g (some a) p
  view_close t q b r none l e = let z : ◌≡◌ {A = ℕ} 0 1 = cc in absurd (omega arith)
  view_close t q b r (some w) l e =
      record {
        first = a.0;
        u = a.1;
        t = t;
        second = b.0;
        v = b.1;
        w = w;
        read = refl;
        comma = q;
        nested = r;
        close = l;
        whole = sym (some-injective _ _ e);
      }

  view_nested : (t : List ℕ) → past comma a.1 ≡ some t → (y : Option Parsed) → parsed t ≡ y
      → paired_by g a.0 (closed closing y) ≡ some p → PairIs g (some a) p
  unfolding closed
  view_nested t q none r e = let z : ◌≡◌ {A = ℕ} 0 1 = cc in absurd (omega arith)
  view_nested t q (some b) r e = view_close t q b r (past closing b.1) refl e

  view_comma : (x : Option (List ℕ)) → past comma a.1 ≡ x
      → (closed_by a.0 x >>= λ c. paired_by g c.0 (closed closing (parsed c.1))) ≡ some p
      → PairIs g (some a) p
  view_comma none q e = let z : ◌≡◌ {A = ℕ} 0 1 = cc in absurd (omega arith)
  view_comma (some t) q e = view_nested t q (parsed t) refl e

-- what was read as a pair is made of its parts
pub pair_view : {A : Type 0} (g : A → Formula → Formula) (o : Option (A × List ℕ)) (p : Parsed)
    → pair_at parsed g o ≡ some p → PairIs g o p
unfolding pair_at closed
pair_view g none p e = let z : ◌≡◌ {A = ℕ} 0 1 = cc in absurd (omega arith)
pair_view g (some a) p e = view_comma g p a (past comma a.1) refl e

-- there is a formula where there is room for one
pub room-some : (k : ℕ) (o : Option Parsed) → Room k o
    → (p : Parsed) × (o ≡ some p) × (k + operations p.0 ≤ most_statements)
room-some k none h = absurd h
room-some k (some p) h = (p, refl, h)
