-- The number is set. Assumes nothing.
use Rattle.grammar.specs.Record.{nests}
use Rattle.grammar.specs.Record.{shares}
use Rattle.grammar.specs.Recorded.{record_in}
use Rattle.rules.specs.Faults.{repeats, reads_unknown, exceeds, miscounts}
use Rattle.rules.specs.Added.{added}
use Rattle.rules.specs.Grown.{with_shares}
use Rattle.lines.specs.Known.{state_in}
use Rattle.lines.proofs.Laws.Taking.{took_is, took_fault, took_set}
use mathlib.Core.Path.{◌≡◌, refl}
use Rattle.std.proofs.Common.{rules}
use Rattle.std.specs.Prelude.{Err}
use Rattle.lines.proofs.declare.take_shares.Goals as goal

pub returns-in_err-first_fault : goal.returns-in_err-first_fault
unfolding record_in repeats reads_unknown exceeds miscounts nests
returns-in_err-first_fault c =
    λ codes.
    let F = c.in_err-first_fault in
    let q : c.from_residual.result ≡ Err F.field-0.0 = search rules in
    took_is c.args.here q
    (took_fault c.args.here (shares c.args.count) refl
    (λ x z. record { repeats = refl; unknown = refl; exceeds = refl; miscounts = refl; shallow = refl })
    F.ensures)

pub returns : goal.returns
unfolding record_in repeats reads_unknown exceeds miscounts added with_shares state_in nests
returns c =
    λ codes.
    let k = c.args.here.held.known in
    took_set c.args.here (shares c.args.count) refl
    (λ x z. record { repeats = refl; unknown = refl; exceeds = refl; miscounts = refl; shallow = refl })
    c.in_ok-first_fault.ensures _ refl (λ x. refl)
