-- The values of the two walks are those of the symbolic trace.
-- Assumes nothing.
use mathlib.Core.Path.{◌≡◌, sym, ap, ap₂, ◌∙◌, subst}
use Prim.Native.Nat.{ℕ, ◌*◌, ◌≤◌}
use mathlib.Core.List.{List, map}
use Rattle.poly.specs.Poly.{Poly, variable}
use Rattle.rules.specs.Read.{Routine}
use Rattle.verdict.specs.Lists.{tabulate, lots}
use Rattle.verdict.specs.Meaning.{values, joined, origin_values, masked_values, trace}
use Rattle.verdict.specs.Instances.{polynomials, polynomials_of, modulus_of, powers_of, symbolic}
use Rattle.values.specs.declared.source.Scope.{Scope}
use Rattle.values.specs.Source.{beginning, variables_of}
use Rattle.survey.proofs.Laws.Beginnings.{origin_begins, masked_begins, masked-variables}

module _ (r : Routine) (s : Scope) (fits : r.inputs * r.shares ≤ r.variables)
    (room : r.variables ≤ powers_of r) where
  abbrev m : ℕ
  m = modulus_of r

  abbrev n : ℕ
  n = powers_of r

  -- the origin block, whose statements draw no variable
  pub origin-trace : s.begins ≡ r.inputs → s.width ≡ r.shares → s.drawn ≡ 0
      → values (polynomials m n) r.maps (variables_of n s) (beginning n s) r.origin ≡ (symbolic r).origin
  unfolding symbolic trace origin_values polynomials_of variables_of
  origin-trace b e d =
      ap₂ (λ (xs vs : List Poly). values (polynomials m n) r.maps xs vs r.origin)
      (ap (λ (k : ℕ). tabulate k (variable n)) d)
      (origin_begins m n r.variables r.shares room s e
      (subst (λ (k : ℕ). k * r.shares ≤ r.variables) (sym b) fits)
      ∙ ap (λ (k : ℕ). map (joined (polynomials m n)) (lots r.shares k (tabulate r.variables (variable n)))) b)

  -- the masked block
  pub masked-trace : s.begins ≡ r.inputs * r.shares → s.width ≡ 1 → s.drawn ≡ r.variables
      → values (polynomials m n) r.maps (variables_of n s) (beginning n s) r.masked ≡ (symbolic r).masked
  unfolding symbolic trace masked_values polynomials_of
  masked-trace b e d =
      ap₂ (λ (xs vs : List Poly). values (polynomials m n) r.maps xs vs r.masked)
      (masked-variables m n r.variables r.shares room r.inputs s d)
      (masked_begins m n r.variables r.shares room r.inputs s e b fits)
