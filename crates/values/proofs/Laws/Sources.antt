-- Each answer of `place` and `locate` is the operand's polynomial, and as many terms as it has.
-- Assumes nothing.
use mathlib.Core.Path.{◌≡◌, refl, sym, ap, ◌∙◌}
use Prim.Native.Nat.{ℕ, zero, suc, ◌+◌, ◌*◌, ◌-◌, ◌≤◌, ◌<◌}
use native.Mathlib.Omega.{arith}
use Rattle.std.proofs.Common.{not, nat_eq, ne_eqb}
use Rattle.std.specs.Int.{from_bool}
use Rattle.poly.specs.Size.{one_if}
use native.Mathlib.Nat.{mul-le-mul_right, suc-mul}
use mathlib.Core.List.{List, ◌++◌}
use lib.ListN.{length, get_or, drop, get_or-append}
use lib.Seq.{get_or-drop, get_or-append-add}
use Rattle.poly.specs.Poly.{Poly, units, variable}
use Rattle.buffer.proofs.Lent.Reads.{read_length}
use Rattle.rules.specs.declared.types.Operand.TheVariants.{Place, Byte}
use Rattle.verdict.specs.Meaning.{operand, value_at}
use Rattle.verdict.specs.Instances.{polynomials}
use Rattle.values.specs.declared.shelf.Shelf.{Shelf}
use Rattle.values.specs.declared.source.Source.{Source}
use Rattle.values.specs.declared.source.Source.TheVariants.{Constant, Variables, Stored}
use Rattle.values.specs.declared.source.Scope.{Scope}
use Rattle.values.specs.Shelf.{slot_at, stored, value_of, Sound}
use Rattle.values.specs.Source.{source_of, source_size, beginning, variables_of, visible, Located}
use Rattle.verdict.proofs.Count.{constant-size, units-size}
use Rattle.verdict.proofs.Laws.Lists.{length-tabulate}
use Rattle.values.proofs.Laws.Tables.{tabulate-at, tabulate-past}

-- ---- how many terms

-- a source has as many terms as its size says
pub source-length : (w : ℕ) (b : List ℕ) (s : Source) → length (source_of w b s) ≡ source_size s
unfolding source_of source_size
source-length w b (Constant c) = constant-size (w - 1) c
source-length w b (Variables i k) = units-size (w - 1) i k
source-length w b (Stored at k) = read_length (w - 1) b (at * w) k

-- a constant that is not zero has one term, and zero has none
pub one_if-test : (c : ℕ) → from_bool (not (nat_eq c 0)) ≡ one_if c
one_if-test zero = refl
one_if-test (suc c) = rw (ne_eqb (suc c) 0 (omega arith))

-- a constant has at most one term
pub one-most : (c : ℕ) → one_if c ≤ 1
one-most zero = omega arith
one-most (suc c) = omega arith

-- ---- the values that a statement may read

module _ (n : ℕ) (s : Scope) (vs : List Poly) (d : Poly) where
  -- so many values as the scope says
  pub beginning-length : length (beginning n s) ≡ s.begins
  unfolding beginning
  beginning-length = length-tabulate s.begins (λ i. units n (i * s.width) s.width)

  -- one that the block begins with
  visible-first : (i : ℕ) → i < s.begins → get_or (visible n s vs) i d ≡ units n (i * s.width) s.width
  unfolding visible beginning
  visible-first i h =
      get_or-append (beginning n s) (drop s.base vs) d i (omega (arith, beginning-length))
      ∙ tabulate-at s.begins (λ j. units n (j * s.width) s.width) i d h

  -- a statement's
  visible-later : (i : ℕ) → s.begins ≤ i → get_or (visible n s vs) i d ≡ get_or vs (s.base + (i - s.begins)) d
  unfolding visible
  visible-later i h =
      let e : i ≡ length (beginning n s) + (i - s.begins) = omega (arith, beginning-length) in
      ap (λ (j : ℕ). get_or (beginning n s ++ drop s.base vs) j d) e
      ∙ get_or-append-add (beginning n s) (drop s.base vs) (i - s.begins) d
      ∙ get_or-drop s.base vs (i - s.begins) d

-- ---- where a value is found

module _ (s : Scope) (d : Shelf) (i : ℕ) where
  -- a value that the block begins with
  pub located_variables : i < s.begins → Located s d (Place i) (Variables (i * s.width) s.width)
  unfolding source_of operand value_at
  located_variables h = record {
    means = λ m w b. sym (visible-first (w - 1) s (stored w b d) _ i h);
    fits = λ w l. omega (arith, suc-mul i s.width, mul-le-mul_right s.width h);
  }

  -- a place past the last is 0
  pub located_nothing : s.begins ≤ i → s.base ≤ d.count → d.count - s.base ≤ i - s.begins
      → Located s d (Place i) (Constant 0)
  unfolding source_of operand value_at polynomials stored
  located_nothing h k g = record {
    means = λ m w b. sym (visible-later (w - 1) s (stored w b d) _ i h
        ∙ tabulate-past d.count (value_of w b d) (s.base + (i - s.begins)) _ (omega arith));
    fits = λ w l. tt;
  }

  -- the value of a statement
  pub located_stored : Sound d → s.begins ≤ i → s.base ≤ d.count → i - s.begins < d.count - s.base
      → Located s d (Place i) (Stored (slot_at d (s.base + (i - s.begins))).start
      (slot_at d (s.base + (i - s.begins))).size)
  unfolding source_of operand value_at stored value_of
  located_stored o h k g = record {
    means = λ m w b. sym (visible-later (w - 1) s (stored w b d) _ i h
        ∙ tabulate-at d.count (value_of w b d) (s.base + (i - s.begins)) _ (omega arith));
    fits = λ w l. o.below (s.base + (i - s.begins)) (omega arith);
  }

-- a constant operand
pub located_byte : (s : Scope) (d : Shelf) (c : ℕ) → Located s d (Byte c) (Constant c)
unfolding source_of operand polynomials
located_byte s d c = record { means = λ m w b. refl; fits = λ w l. tt }

-- ---- a variable that is drawn

-- it is found among the variables
pub drawn-variable : (s : Scope) (v : ℕ) → v < s.drawn → (m w : ℕ) (b : List ℕ)
    → source_of w b (Variables v 1) ≡ value_at (polynomials m (w - 1)) (variables_of (w - 1) s) v
unfolding source_of value_at variables_of
drawn-variable s v h m w b = sym (tabulate-at s.drawn (variable (w - 1)) v _ h)
