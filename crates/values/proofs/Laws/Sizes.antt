-- The raw size of each statement from the sizes of its operands.
-- Assumes nothing.
use mathlib.Core.Path.{◌≡◌, refl, sym, ap, ◌∙◌, subst}
use Prim.Native.Nat.{ℕ, zero, suc, ◌+◌, ◌≤◌}
use native.Mathlib.Omega.{arith}
use Rattle.std.proofs.Common.{cond, not, nat_eq, ne_eqb, count_by, zero-add}
use Rattle.std.proofs.lemmas.List.Recursion.{is_count_by}
use mathlib.Core.List.{List, ◌∷◌}
use lib.ListN.{length}
use Rattle.poly.specs.Poly.{Poly}
use Rattle.poly.specs.Size.{nonzeros}
use Rattle.rules.specs.declared.types.Operand.{Operand}
use Rattle.rules.specs.declared.types.Op.{Op}
use Rattle.rules.specs.declared.types.Op.TheVariants.{Set, Xor, Mul, App, Rand}
use Rattle.rules.specs.Read.{Routine}
use Rattle.verdict.specs.Instances.{polynomials_of, modulus_of, powers_of}
use Rattle.verdict.specs.Count.{raw_size}
use Rattle.values.specs.declared.shelf.Shelf.{Shelf}
use Rattle.values.specs.declared.source.Source.{Source}
use Rattle.values.specs.declared.source.Source.TheVariants.{Constant, Variables, Stored}
use Rattle.values.specs.declared.source.Scope.{Scope}
use Rattle.values.specs.Source.{source_size, Fits, Narrow, Located}
use Rattle.values.specs.declared.found.Found.{Found}
use Rattle.values.specs.declared.found.Found.TheVariants.{Sum}
use Rattle.values.specs.Raw.{most_standing, raw_in, OperandSized}
use Rattle.values.specs.Found.{RawAsked}
use Rattle.values.specs.Load.{most_term_bytes}
use Rattle.values.proofs.Laws.Sources.{source-length, one-most}

-- ---- coefficients that are not zero

-- they are those that the test counts
pub nonzeros-count : (l : List ℕ) → nonzeros l ≡ count_by (λ c. not (nat_eq c 0)) l
nonzeros-count = is_count_by nonzeros (λ c. not (nat_eq c 0)) refl step
  where
    step : (c : ℕ) (l : List ℕ) → nonzeros (c ∷ l) ≡ cond (not (nat_eq c 0)) (1 + nonzeros l) (nonzeros l)
    step zero l = zero-add (nonzeros l)
    step (suc c) l = rw (ne_eqb (suc c) 0 (omega arith))

-- ---- an application

-- ---- an operand

fits-most : (w top : ℕ) (r : Source) → w ≤ most_term_bytes → top ≤ most_standing → Fits w top r
    → source_size r ≤ most_standing
unfolding source_size
fits-most w top (Constant c) h k f = omega (arith, one-most c)
fits-most w top (Variables i j) h k f = omega arith
fits-most w top (Stored at j) h k f = omega arith

-- an operand has few terms where few stand
pub located_small : {s : Scope} {d : Shelf} {a : Operand} {r : Source} → Narrow s d → d.top ≤ most_standing
    → Located s d a r → source_size r ≤ most_standing
located_small {d = d} {r = r} n h l =
    fits-most most_term_bytes d.top r (omega arith) h (l.fits most_term_bytes (omega (arith, n.few)))

-- the size of an operand is that of its source
pub operand-sized : (s : Scope) (d : Shelf) (a : Operand) (r : Source) (k : ℕ) → Narrow s d → d.top ≤ most_standing
    → Located s d a r → k ≡ source_size r → OperandSized s d a k
operand-sized s d a r k n h l e = record {
  means = λ m w b. e ∙ sym (source-length w b r) ∙ ap length (l.means m w b);
  most = omega (arith, located_small n h l);
}

-- ---- a statement; x is what the code has found

module _ {x : Found} (Q : RawAsked x) where
  -- a sum has two small operands
  pub sum-small : {r t : Source} → x ≡ Sum r t → (source_size r ≤ most_standing) × (source_size t ≤ most_standing)
  sum-small e = subst RawAsked e Q

-- it is the raw size of the rules
pub raw_size_of : (r : Routine) (vs : List Poly) (o : Op)
    → raw_size r vs o ≡ raw_in (modulus_of r) (powers_of r) r.maps vs o
unfolding raw_in raw_size polynomials_of
raw_size_of r vs (Set a) = refl
raw_size_of r vs (Xor a b) = refl
raw_size_of r vs (Mul a b) = refl
raw_size_of r vs (App f a) = refl
raw_size_of r vs (Rand v) = refl
