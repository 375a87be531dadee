-- The name is looked up. Assumes nothing.
use Rattle.grammar.specs.Record.{nests}
use Rattle.grammar.specs.Line.{name_in}
use Rattle.grammar.specs.Record.{result}
use Rattle.grammar.specs.Recorded.{record_in}
use Rattle.lines.specs.Known.{origin_names}
use Rattle.lookup.specs.Names.{names_in}
use Rattle.lookup.proofs.Laws.Named.{listed-length}
use Rattle.lookup.proofs.Laws.Placing.{found-missing, found-place}
use Rattle.rules.specs.Limits.{origin_from}
use Prim.Native.Nat.{ℕ}
use Rattle.rules.specs.Grown.{with_result}
use Rattle.rules.specs.Faults.{repeats, reads_unknown, exceeds, miscounts}
use Rattle.rules.specs.Added.{added}
use Rattle.lines.specs.Known.{kept, state_in}
use Rattle.lines.proofs.Laws.Taking.{took_is, took_fault, took_set}
use Rattle.std.proofs.Common.{rules}
use Rattle.std.specs.Prelude.{Err}
use mathlib.Core.Path.{◌≡◌, refl, ap, sym, ◌∙◌}
use Rattle.lines.proofs.take.take_result.Goals as goal

pub returns-in_err-first_fault : goal.returns-in_err-first_fault
unfolding record_in repeats reads_unknown exceeds miscounts state_in names_in nests
returns-in_err-first_fault c =
    λ codes.
    let s = c.args.here.line.text.now in
    let t = c.args.here.table.now in
    let ms = origin_names s t c.args.here.held.known in
    let F = c.in_err-first_fault in
    let q : c.from_residual.result ≡ Err F.field-0.0 = search rules in
    took_is c.args.here q
    (took_fault c.args.here (result (name_in s c.args.x)) refl
    (λ y z. record {
      repeats = refl;
      unknown = found-missing ms _ (rw c.set-set.ensures at c.find-found.ensures) c.is_none.result c.is_none.ensures;
      exceeds = refl;
      miscounts = refl;
      shallow = refl;
    }) F.ensures)

pub returns : goal.returns
unfolding record_in repeats reads_unknown exceeds miscounts added state_in names_in with_result nests
returns c =
    λ codes.
    let k = c.args.here.held.known in
    let K = c.args.here.held.sound in
    let s = c.args.here.line.text.now in
    let t = c.args.here.table.now in
    let found = rw c.set-set.ensures at c.find-found.ensures in
    let place = c.unwrap_or.result in
    let ms = origin_names s t k in
    let long = sym (listed-length s t origin_from k.wholes) in
    took_set c.args.here (result (name_in s c.args.x)) refl
    (λ y z. record {
      repeats = refl;
      unknown = found-missing ms _ found c.is_none.result c.is_none.ensures;
      exceeds = refl;
      miscounts = refl;
      shallow = refl;
    })
    c.in_ok-first_fault.ensures _ refl
    (λ y. ap (λ (p : ℕ). with_result p (state_in s (kept t k y))) (c.unwrap_or.ensures ∙ found-place ms _ found long))
