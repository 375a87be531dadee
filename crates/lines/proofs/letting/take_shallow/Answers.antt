-- What was found in the formula decides the faults. Assumes nothing.
use native.Mathlib.Omega.{arith}
use mathlib.Core.Path.{◌≡◌, refl, ap, ◌∙◌}
use Rattle.grammar.specs.Line.{name_in}
use Rattle.rules.specs.Scope.{given}
use Rattle.grammar.specs.Formula.{read_formula}
use Rattle.lines.specs.Lets.{field_of}
use Rattle.lines.specs.Known.{block_names, map_names}
use Rattle.lines.proofs.Laws.Taking.{no_faults, took_is}
use Rattle.std.proofs.Common.{rules}
use Rattle.std.specs.Prelude.{Err}
use Rattle.lines.proofs.Laws.LetWriting.{shallow_fits, shallow-count, written-size}
use Rattle.lines.proofs.Laws.LetTaking.{let_fault, let_fits, let_grown, let_limited}
use Rattle.lines.proofs.letting.take_shallow.Goals as goal

pub write_let-unknown-requires : goal.write_let-unknown-requires
write_let-unknown-requires c =
    let S = c.requires.0 in
    (S.inside, shallow_fits c.args.here.line.text.now c.args.f S)

pub overflow_add-many-2 : goal.overflow_add-many-2
overflow_add-many-2 c =
    omega (arith, c.args.here.held.sound.statements, shallow-count c.args.here.line.text.now c.args.f c.requires.0)

pub returns-in_err-first_fault : goal.returns-in_err-first_fault
returns-in_err-first_fault c =
    let k = c.args.here.held.known in
    let s = c.args.here.line.text.now in
    let t = c.args.here.table.now in
    let set = c.block_names in
    let W = c.write_let-unknown in
    let F = c.in_err-first_fault in
    let q : c.from_residual.result ≡ Err F.field-0.0 = search rules in (
      took_is c.args.here q
          (let_fault c.args.here c.args.x c.args.f c.requires.0 c.requires.1 W.result _ _
          W.ensures ((rw c.set-set.ensures at c.is_given-given.ensures)
          ∙ ap (given (name_in s c.args.x)) (set.ensures s t)) refl F.ensures),
      written-size (block_names s t k) (map_names s t k) c.args.ops.now _ W.result
          (read_formula (field_of s c.args.f)) (shallow_fits s c.args.f c.requires.0) W.ensures,
    )

pub with_statements-next-requires : goal.with_statements-next-requires
with_statements-next-requires c =
    let s = c.args.here.line.text.now in
    let t = c.args.here.table.now in
    let set = c.block_names in
    let W = c.write_let-unknown in
    let F = let_fits c.args.here c.args.x c.args.f c.requires.0 c.requires.1
    W.result _ _ W.ensures ((rw c.set-set.ensures at c.is_given-given.ensures)
    ∙ ap (given (name_in s c.args.x)) (set.ensures s t)) refl c.in_ok-first_fault.ensures in
    (omega arith, omega (arith, F.1))

pub invariant_of-result : goal.invariant_of-result
invariant_of-result c =
    let s = c.args.here.line.text.now in
    let t = c.args.here.table.now in
    let set = c.block_names in
    let W = c.write_let-unknown in
    record {
      sound =
          let_limited c.args.here c.args.x c.args.f c.requires.0 c.requires.1 W.result _ _ W.ensures
          ((rw c.set-set.ensures at c.is_given-given.ensures) ∙ ap (given (name_in s c.args.x)) (set.ensures s t)) refl
          c.in_ok-first_fault.ensures c.with_statements-next.ensures;
    }

pub returns : goal.returns
returns c =
    let k = c.args.here.held.known in
    let s = c.args.here.line.text.now in
    let t = c.args.here.table.now in
    let set = c.block_names in
    let W = c.write_let-unknown in
    let e = c.in_ok-first_fault.ensures in
    let free = no_faults _ _ _ _ _ e refl in (
      let_grown c.args.here c.args.x c.args.f c.requires.0 c.requires.1 W.result _ _
          W.ensures ((rw c.set-set.ensures at c.is_given-given.ensures)
          ∙ ap (given (name_in s c.args.x)) (set.ensures s t)) refl e
          (c.args.here.low free.0)
          c.with_statements-next.ensures,
      written-size (block_names s t k) (map_names s t k) c.args.ops.now _ W.result
          (read_formula (field_of s c.args.f)) (shallow_fits s c.args.f c.requires.0) W.ensures,
    )
