-- The faults of an input, or one input more. Assumes nothing.
use Rattle.lookup.specs.Names.{names_in}
use Rattle.grammar.specs.Record.{nests}
use borrow.Author.Tests.{ltb-false}
use lib.Dec.{ltb}
use Rattle.grammar.specs.Line.{name_in}
use Rattle.grammar.specs.Record.{input}
use Rattle.grammar.specs.Recorded.{record_in}
use Rattle.lines.specs.declared.known.Known.{Known}
use Rattle.lines.specs.declared.step.Put.TheVariants.{Input}
use Rattle.rules.specs.Faults.{repeats, reads_unknown, exceeds, miscounts}
use Rattle.rules.specs.Added.{added}
use Rattle.rules.specs.Limits.{most_inputs, most_variables}
use Rattle.lines.specs.Known.{kept, state_in}
use Rattle.lines.specs.Stored.{after}
use Rattle.lines.specs.Added.{InputFits}
use Rattle.tokens.proofs.Laws.Flags.{or_false}
use Rattle.lines.proofs.Laws.Kept.{input-means}
use Rattle.lines.proofs.Laws.Taking.{no_faults, took_is, took_fault, took_grown}
use native.Mathlib.Omega.{arith}
use Rattle.std.proofs.Common.{rules}
use Rattle.std.specs.Prelude.{Err}
use Prim.Native.Nat.{◌+◌}
use mathlib.Core.Path.{◌≡◌, refl, ap, ◌∙◌}
use Rattle.lines.proofs.declare.take_input.Goals as goal
use Rattle.lines.proofs.declare.take_input.Goals.{In_ok-first_fault}

-- one input more is within the limits
room : (c : In_ok-first_fault) → InputFits c.args.here.held.known
room c =
    let k = c.args.here.held.known in
    let t = no_faults _ _ _ _ _ c.in_ok-first_fault.ensures refl in
    let u = or_false (ltb most_inputs (k.inputs + 1)) (ltb most_variables (k.variables + k.shares)) t.3 in
    let few = ltb-false most_inputs (k.inputs + 1) u.0 in
    (omega (arith, few), ltb-false most_variables (k.variables + k.shares) u.1)

pub returns-in_err-first_fault : goal.returns-in_err-first_fault
unfolding record_in repeats reads_unknown exceeds miscounts state_in names_in nests
returns-in_err-first_fault c =
    λ codes.
    let s = c.args.here.line.text.now in
    let t = c.args.here.table.now in
    let F = c.in_err-first_fault in
    let q : c.from_residual.result ≡ Err F.field-0.0 = search rules in
    took_is c.args.here q
    (took_fault c.args.here (input (name_in s c.args.x)) refl
    (λ y z. record {
      repeats = rw c.set-set.ensures at c.is_given-given.ensures;
      unknown = refl;
      exceeds = refl;
      miscounts = refl;
      shallow = refl;
    }) F.ensures)

pub with_input-requires : goal.with_input-requires
with_input-requires c = room (goal.at.with_input-requires c).In_ok-first_fault

pub returns : goal.returns
unfolding record_in repeats reads_unknown exceeds miscounts added state_in names_in nests
returns c =
    λ codes.
    let k = c.args.here.held.known in
    let s = c.args.here.line.text.now in
    let t = c.args.here.table.now in
    let m = c.args.x in
    let fit = room (goal.at.returns c).In_ok-first_fault in
    let to = c.with_input.ensures in
    took_grown c.args.here (input (name_in s m)) refl
    (λ y z. record {
      repeats = rw c.set-set.ensures at c.is_given-given.ensures;
      unknown = refl;
      exceeds = refl;
      miscounts = refl;
      shallow = refl;
    })
    _ c.in_ok-first_fault.ensures (ap (λ (j : Known). j.stage) to) fit tt
    (λ y z. ap (λ (j : Known). state_in s (after s (kept t k y) j (Input m))) to
    ∙ input-means s (kept t k y) c.args.here.held.sound z m fit)
