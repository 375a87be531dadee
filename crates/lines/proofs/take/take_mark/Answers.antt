-- No test but the order, and nothing is added. Assumes nothing.
use Rattle.grammar.specs.Record.{nests}
use Rattle.grammar.specs.Record.{origin, masked}
use Rattle.grammar.specs.Recorded.{record_in}
use Rattle.rules.specs.Faults.{repeats, reads_unknown, exceeds, miscounts}
use Rattle.rules.specs.Added.{added}
use Rattle.lines.proofs.Laws.Taking.{took_is, took_set, took_fault}
use Rattle.std.proofs.Common.{rules}
use Rattle.std.specs.Prelude.{Err}
use mathlib.Core.Path.{◌≡◌, refl}
use Rattle.lines.proofs.take.take_mark.Goals as goal

pub returns-in_err-first_fault : goal.returns-in_err-first_fault
unfolding record_in repeats reads_unknown exceeds miscounts nests
returns-in_err-first_fault c =
    let here = c.args.here in
    let F = c.in_err-first_fault in
    let q : c.from_residual.result ≡ Err F.field-0.0 = search rules in (
      λ codes.
          took_is here q (took_fault here origin refl
          (λ x z. record { repeats = refl; unknown = refl; exceeds = refl; miscounts = refl; shallow = refl })
          F.ensures),
      λ codes.
          took_is here q (took_fault here masked refl
          (λ x z. record { repeats = refl; unknown = refl; exceeds = refl; miscounts = refl; shallow = refl })
          F.ensures),
    )

pub returns : goal.returns
unfolding record_in repeats reads_unknown exceeds miscounts added nests
returns c =
    let here = c.args.here in (
      λ codes.
          took_set here origin refl
          (λ x z. record { repeats = refl; unknown = refl; exceeds = refl; miscounts = refl; shallow = refl })
          c.in_ok-first_fault.ensures here.held refl (λ x. refl),
      λ codes.
          took_set here masked refl
          (λ x z. record { repeats = refl; unknown = refl; exceeds = refl; miscounts = refl; shallow = refl })
          c.in_ok-first_fault.ensures here.held refl (λ x. refl),
    )
