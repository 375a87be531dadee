-- What was found for the operands decides the faults and the statement. Assumes nothing.
use Rattle.grammar.specs.Recorded.{form_in, record_in}
use Rattle.lookup.specs.Names.{names_in}
use Rattle.lines.proofs.Laws.Taking.{no_faults, took_is}
use Rattle.std.proofs.Common.{rules}
use Rattle.std.specs.Prelude.{Err, Some as some}
use Rattle.lookup.specs.Found.{form_found}
use Rattle.lines.specs.Known.{map_names}
use Rattle.lines.specs.Taken.{text_of, names_above}
use Rattle.tokens.proofs.Laws.Some.{some_same}
use Rattle.lines.proofs.Laws.Stating.{form-fault, form-grown, room, stated-limited}
use mathlib.Core.Path.{◌≡◌, refl, sym, ◌∙◌}
use Prim.Native.Nat.{◌≤◌}
use native.Mathlib.Omega.{arith}
use Rattle.lookup.proofs.Laws.Finding.{form_few}
use Rattle.lines.proofs.assign.take_statement.Goals as goal
use Rattle.lines.proofs.assign.take_statement.Goals.{After-unwrap-form}

-- what was found of the form
found : (c : After-unwrap-form) →
    let s = text_of c.args.here in
    let t = names_above c.args.here in
    let k = c.args.here.held.known in
    c.unwrap-form.result
    ≡ form_found (names_in s t c.block_names.result) (map_names s t k) k.variables (form_in s c.args.f)
unfolding names_in
found c =
    let was : c.find_form.result ≡ some c.unwrap-form.result = search rules in
    some_same (sym was ∙ rw c.set-set.ensures at c.find_form.ensures)

-- it draws one variable at most
few : (c : After-unwrap-form) → c.unwrap-form.result.drawn ≤ 1
few c = form_few _ _ _ _ (found c)

pub is_crowded-many-requires : goal.is_crowded-many-requires
is_crowded-many-requires c = few (goal.at.is_crowded-many-requires c).After-unwrap-form

pub with_statements-next-requires : goal.with_statements-next-requires
with_statements-next-requires c =
    (few (goal.at.with_statements-next-requires c).After-unwrap-form, omega arith)

pub returns-in_err-first_fault : goal.returns-in_err-first_fault
unfolding record_in names_in
returns-in_err-first_fault c =
    λ codes.
    let s = c.args.here.line.text.now in
    let t = c.args.here.table.now in
    let set = c.block_names in
    let F = c.in_err-first_fault in
    let q : c.from_residual.result ≡ Err F.field-0.0 = search rules in
    took_is c.args.here q
    (form-fault c.args.here c.args.x c.args.f c.unwrap-form.result
    (names_in s t set.result) (set.ensures s t) (found (goal.at.returns-in_err-first_fault c).After-unwrap-form)
    (rw c.set-set.ensures at c.is_given-given.ensures) c.is_crowded-many.ensures F.ensures)

pub invariant_of-result : goal.invariant_of-result
invariant_of-result c =
    let h = c.args.here.held in
    let free = no_faults _ _ _ _ _ c.in_ok-first_fault.ensures refl in
    record {
      sound =
          stated-limited h _ (room h.known _ (sym c.is_crowded-many.ensures ∙ free.3)) c.with_statements-next.ensures;
    }

pub returns : goal.returns
unfolding record_in names_in
returns c =
    λ codes.
    let s = c.args.here.line.text.now in
    let t = c.args.here.table.now in
    let set = c.block_names in
    let F = c.in_ok-first_fault.ensures in
    let free = no_faults _ _ _ _ _ F refl in
    let fit = room c.args.here.held.known _ (sym c.is_crowded-many.ensures ∙ free.3) in
    form-grown c.args.here c.args.x c.args.f c.unwrap-form.result
    (names_in s t set.result) (set.ensures s t) (found (goal.at.returns c).After-unwrap-form)
    (rw c.set-set.ensures at c.is_given-given.ensures) c.is_crowded-many.ensures F fit (c.args.here.low free.0)
    c.with_statements-next.ensures
