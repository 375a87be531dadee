-- A statement, or those of a formula one by one. Assumes nothing.
use Prim.Native.Nat.{ℕ, ◌+◌}
use native.Mathlib.Omega.{arith}
use mathlib.Core.List.{List}
use mathlib.Core.Path.{◌≡◌, refl, ap, sym}
use Rattle.grammar.specs.declared.line.NameRef.{NameRef}
use Rattle.rules.specs.declared.types.Op.{Op}
use Rattle.rules.specs.declared.types.Statement.{Statement}
use Rattle.lines.specs.declared.step.Letting.{Letting}
use Rattle.lines.specs.declared.step.Put.{Put}
use Rattle.lines.specs.declared.step.Put.TheVariants.{Nothing, Map, Input, Stated, Let}
use Rattle.lookup.specs.Coded.{written}
use Rattle.lines.specs.Given.{given_count, given_at, given_from}
use Rattle.text.proofs.Laws.Stored.{storing_more, storing_done}
use Rattle.text.proofs.store.store_statements.Goals as goal

-- a record that is no statement gives none
none-given : (ss : List Statement) (ops : List Op) (at : ℕ) (p : Put)
    → ((x : NameRef) (st : Statement) → p ≡ Stated x st → ⊥)
    → ((x : NameRef) (f : Letting) → p ≡ Let x f → ⊥) → ss ≡ written ss at (given_from ops p 0 (given_count p))
unfolding written given_from
none-given ss ops at Nothing e h = refl
none-given ss ops at (Map x f) e h = refl
none-given ss ops at (Input x) e h = refl
none-given ss ops at (Stated x st) e h = absurd (e x st refl)
none-given ss ops at (Let x f) e h = absurd (h x f refl)

pub loop-i-preserved : goal.loop-i-preserved
loop-i-preserved c =
    let a = c.args in
    let M = c.loop-i in
    storing_more _ _ _ _ _ M.statements M.i M.invariant _ (omega arith)
    (ap (λ (q : Put). given_at a.ops.now q M.i) (sym c.in-Let.is))

pub returns-in-Stated : goal.returns-in-Stated
unfolding written given_from
returns-in-Stated c =
    let a = c.args in
    ap (λ (q : Put). written a.statements.now (a.h.known.origin + a.h.known.masked)
    (given_from a.ops.now q 0 (given_count q))) (sym c.in-Stated.is)

pub returns-after-loop-i : goal.returns-after-loop-i
returns-after-loop-i c =
    let M = c.loop-i in
    storing_done _ _ _ _ _ M.statements M.i M.invariant (omega arith) (ap given_count (sym c.in-Let.is))

pub returns-in_default : goal.returns-in_default
returns-in_default c =
    let a = c.args in
    none-given a.statements.now a.ops.now _ a.p c.in_default.not-Stated c.in_default.not-Let
