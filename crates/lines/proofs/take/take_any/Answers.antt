-- In each arm the record is known. Assumes nothing.
use Rattle.grammar.specs.declared.record.Rec.{Rec}
use Rattle.lines.specs.declared.step.Step.{Step}
use Rattle.lines.specs.Taken.{Took, TookAny, record_at}
use Rattle.lines.proofs.Laws.Taking.{took_as}
use Rattle.std.specs.Prelude.{Result}
use Rattle.tokens.specs.declared.refusal.Refusal.{Refusal}
use lib.ListN.{length}
use mathlib.Core.Path.{◌≡◌, refl}
use Rattle.lines.proofs.take.take_any.Goals as goal
use Rattle.lines.proofs.take.take_any.Goals.{Start}

-- the record of an arm is known, and the operations of a `let` stay
arm : (d : Start) {q : Rec} {x : Result Step Refusal} → let a = d.args in
    a.r ≡ q → TookAny a.here (record_at a.here q) x
    → Took a.ops.now a.here (record_at a.here a.r) x
    × (length a.ops.now ≡ length a.ops.now)
arm d e T = (took_as d.args.here e (T _), refl)

pub returns-in-Shares : goal.returns-in-Shares
returns-in-Shares c = arm (goal.at.returns-in-Shares c).Start c.in-Shares.is (c.take_shares.ensures)

pub returns-in-Map : goal.returns-in-Map
returns-in-Map c = arm (goal.at.returns-in-Map c).Start c.in-Map.is c.take_map.ensures

pub returns-in-Input : goal.returns-in-Input
returns-in-Input c = arm (goal.at.returns-in-Input c).Start c.in-Input.is c.take_input.ensures

pub returns-in-Origin : goal.returns-in-Origin
returns-in-Origin c = arm (goal.at.returns-in-Origin c).Start c.in-Origin.is c.take_mark.ensures.0

pub returns-in-Assign : goal.returns-in-Assign
returns-in-Assign c = arm (goal.at.returns-in-Assign c).Start c.in-Assign.is c.take_statement.ensures

pub returns-in-Result : goal.returns-in-Result
returns-in-Result c = arm (goal.at.returns-in-Result c).Start c.in-Result.is c.take_result.ensures

pub returns-in-Masked : goal.returns-in-Masked
returns-in-Masked c = arm (goal.at.returns-in-Masked c).Start c.in-Masked.is c.take_mark-in-Masked.ensures.1

pub returns-in-Output : goal.returns-in-Output
returns-in-Output c = arm (goal.at.returns-in-Output c).Start c.in-Output.is c.take_output.ensures
