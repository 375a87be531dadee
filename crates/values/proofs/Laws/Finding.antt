-- Each answer of `find` has the statement's value and its raw size.
-- Assumes nothing.
use mathlib.Core.Path.{◌≡◌, refl, sym, ap, ap₂, ◌∙◌, subst}
use Prim.Native.Nat.{ℕ, ◌+◌, ◌*◌, ◌-◌, ◌<◌}
use native.Mathlib.Omega.{arith}
use mathlib.Core.List.{List}
use lib.ListN.{length}
use Rattle.field.specs.Laws.{gf}
use Rattle.field.specs.Maps.{coefficients_of}
use Rattle.poly.specs.Poly.{add_poly, mul_poly, map_poly}
use Rattle.poly.specs.Size.{one_if, nonzeros}
use Rattle.rules.specs.declared.types.Operand.{Operand}
use Rattle.rules.specs.declared.types.Op.{Op}
use Rattle.rules.specs.declared.types.Op.TheVariants.{Set, Xor, Mul, App, Rand}
use Rattle.verdict.specs.Meaning.{map_at, operand, given}
use Rattle.verdict.specs.Instances.{polynomials}
use Rattle.verdict.specs.Count.{apply_size}
use Rattle.values.specs.declared.shelf.Shelf.{Shelf}
use Rattle.values.specs.declared.source.Source.{Source}
use Rattle.values.specs.declared.source.Source.TheVariants.{Variables}
use Rattle.values.specs.declared.source.Scope.{Scope}
use Rattle.values.specs.declared.found.Found.TheVariants.{Copy, Sum, Product, Image}
use Rattle.values.specs.Source.{source_of, source_size, reach, Narrow, Located}
use Rattle.values.specs.Raw.{raw_in, Inside}
use Rattle.values.specs.Found.{found_value, found_size, FoundFor}
use Rattle.values.proofs.Laws.Sources.{source-length, drawn-variable}
use Rattle.values.proofs.Laws.Sizes.{located_small}

-- the terms of an operand, counted
size_is : (m w : ℕ) (b : List ℕ) {s : Scope} {d : Shelf} {a : Operand} {r : Source} → Located s d a r
    → source_size r ≡ length (operand (polynomials m (w - 1)) (reach w b d s) a)
size_is m w b {r = r} l = sym (source-length w b r) ∙ ap length (l.means m w b)

-- ---- each statement; x is the operation as the code has it

module _ {s : Scope} {d : Shelf} {x : Op} where
  -- set
  pub set_found : {a : Operand} {r : Source} → x ≡ Set a → Located s d a r → FoundFor s d x (Copy r)
  unfolding found_value found_size given raw_in
  set_found {a} {r} e l = subst (λ (o : Op). FoundFor s d o (Copy r)) (sym e) record {
    means = λ m w lists constants b maps u. l.means m w b;
    sized = λ m w lists constants b maps u. size_is m w b l;
    fits = λ w h g. l.fits w h;
    small = λ h. tt;
  }

  -- xor
  pub xor-found : {a b : Operand} {r t : Source} → x ≡ Xor a b → Narrow s d → Located s d a r → Located s d b t
      → FoundFor s d x (Sum r t)
  unfolding found_value found_size given raw_in polynomials
  xor-found {r = r} {t} e N l n = subst (λ (o : Op). FoundFor s d o (Sum r t)) (sym e) record {
    means = λ m w lists constants b maps u. ap₂ (add_poly (gf m)) (l.means m w b) (n.means m w b);
    sized = λ m w lists constants b maps u. ap₂ (λ (y z : ℕ). y + z) (size_is m w b l) (size_is m w b n);
    fits = λ w h g. (l.fits w h, n.fits w h);
    small = λ h. (located_small N h l, located_small N h n);
  }

  -- mul
  pub mul-found : {a b : Operand} {r t : Source} → x ≡ Mul a b → Narrow s d → Located s d a r → Located s d b t
      → FoundFor s d x (Product r t)
  unfolding found_value found_size given raw_in polynomials
  mul-found {r = r} {t} e N l n = subst (λ (o : Op). FoundFor s d o (Product r t)) (sym e) record {
    means = λ m w lists constants b maps u. ap₂ (mul_poly (gf m)) (l.means m w b) (n.means m w b);
    sized = λ m w lists constants b maps u. ap₂ (λ (y z : ℕ). y * z) (size_is m w b l) (size_is m w b n);
    fits = λ w h g. (l.fits w h, n.fits w h);
    small = λ h. (located_small N h l, located_small N h n);
  }

  -- app
  pub app-found : {f : ℕ} {a : Operand} {r : Source} → x ≡ App f a → Narrow s d → Inside s.drawn x → Located s d a r
      → FoundFor s d x (Image f r)
  unfolding found_value found_size given raw_in polynomials apply_size
  app-found {f} {a} {r} e N n l =
      let inside : f < 8 = subst (Inside s.drawn) e n in
      subst (λ (o : Op). FoundFor s d o (Image f r)) (sym e) record {
        means = λ m w lists constants b maps u.
            ap₂ (λ (c : ℕ) (ls : List ℕ). map_poly (gf m) (w - 1) c ls (source_of w b r)) (u.constant f inside)
            (u.coefficients f inside)
            ∙ ap (map_poly (gf m) (w - 1) (map_at maps f).constant (coefficients_of m (map_at maps f).columns))
            (l.means m w b);
        sized = λ m w lists constants b maps u.
            ap₂ (λ (y : List ℕ) (z : ℕ). nonzeros y * source_size r + one_if z) (u.coefficients f inside)
            (u.constant f inside)
            ∙ ap (λ (y : ℕ). nonzeros (coefficients_of m (map_at maps f).columns) * y + one_if (map_at maps f).constant)
            (size_is m w b l);
        fits = λ w h g. (inside, l.fits w h);
        small = λ h. (inside, located_small N h l);
      }

  -- rand
  pub rand-found : {v : ℕ} → x ≡ Rand v → Inside s.drawn x → FoundFor s d x (Copy (Variables v 1))
  unfolding found_value found_size given raw_in source_size
  rand-found {v} e n =
      let inside : v < s.drawn = subst (Inside s.drawn) e n in
      subst (λ (o : Op). FoundFor s d o (Copy (Variables v 1))) (sym e) record {
        means = λ m w lists constants b maps u. drawn-variable s v inside m w b;
        sized = λ m w lists constants b maps u. refl;
        fits = λ w h g. omega arith;
        small = λ h. tt;
      }
