-- The statements of a `let` come back from where its operations were written. Assumes nothing.
use Prim.Native.Nat.{ℕ, suc, ◌+◌, ◌≤◌, ◌<◌}
use native.Mathlib.Omega.{arith}
use mathlib.Core.Path.{◌≡◌, refl, ap, ◌∙◌}
use mathlib.Core.List.{List, [], ◌∷◌}
use lib.ListN.{length, get_or}
use Rattle.grammar.specs.declared.line.NameRef.{NameRef}
use Rattle.lines.specs.declared.step.Letting.{Letting}
use Rattle.lines.specs.declared.step.Put.TheVariants.{Let}
use Rattle.rules.specs.declared.types.Operand.TheVariants.{Place}
use Rattle.rules.specs.declared.types.Op.{Op}
use Rattle.rules.specs.declared.types.Op.TheVariants.{Set}
use Rattle.rules.specs.Added.{at_line}
use Rattle.lookup.specs.Coded.{written}
use Rattle.lines.specs.Given.{given_from}
use Rattle.lookup.proofs.Laws.Decoding.{written_back}

-- entry by entry
from_each : (os : List Op) (c : List Op) (x : NameRef) (f : Letting) (k : ℕ)
    → ((i : ℕ) → i < length os → get_or c (k + i) (Set (Place 0)) ≡ get_or os i (Set (Place 0)))
    → given_from c (Let x f) k (length os) ≡ at_line f.line os
unfolding given_from
from_each [] c x f k h = refl
from_each (o ∷ os) c x f k h =
    let at : k ≡ k + 0 = omega arith in
    let here = ap (λ (j : ℕ). get_or c j (Set (Place 0))) at ∙ h 0 (omega arith) in
    let rest = from_each os c x f (k + 1) (λ i p.
    let e : k + 1 + i ≡ k + suc i = omega arith in
    ap (λ (j : ℕ). get_or c j (Set (Place 0))) e ∙ h (suc i) (omega arith)) in
    λ i. record { op = here i; line = f.line } ∷ rest i

-- the statements of a `let`, read back from where its operations were written
pub let_back : (x : NameRef) (f : Letting) (os t : List Op) (c : ℕ) → c ≡ length os → c ≤ length t
    → given_from (written t 0 os) (Let x f) 0 c ≡ at_line f.line os
let_back x f os t c size room =
    ap (given_from (written t 0 os) (Let x f) 0) size
    ∙ from_each os (written t 0 os) x f 0 (written_back t 0 os (omega arith) (Set (Place 0)))
