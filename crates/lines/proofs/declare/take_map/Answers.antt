-- The faults of a map, or one map more. Assumes nothing.
use Rattle.lookup.specs.Names.{names_in}
use Rattle.grammar.specs.Record.{nests}
use borrow.Author.Tests.{ltb-false}
use lib.Dec.{ltb}
use Rattle.grammar.specs.Recorded.{columns_of, map_in, record_in}
use Rattle.grammar.specs.Line.{name_in}
use Rattle.grammar.specs.TextLine.{pieces_of}
use Rattle.grammar.specs.Record.{map}
use Rattle.rules.specs.Faults.{repeats, reads_unknown, exceeds, miscounts}
use Rattle.rules.specs.Added.{added}
use Rattle.rules.specs.Limits.{most_maps}
use Rattle.lines.specs.Known.{kept, state_in}
use Rattle.lines.proofs.Laws.Known.{steady}
use Rattle.lines.proofs.Laws.Kept.{map-means}
use Rattle.lines.proofs.Laws.Taking.{no_faults, maps-length, took_bad, took_is, took_fault, took_grown}
use Rattle.std.proofs.Common.{rules}
use Rattle.std.specs.Prelude.{Err, Some as some, None as none}
use native.Mathlib.Omega.{arith}
use Prim.Native.Nat.{ℕ, ◌+◌, ◌<◌}
use mathlib.Core.Path.{◌≡◌, refl, ap, sym, ◌∙◌}
use Rattle.tokens.specs.declared.refusal.Refusal.TheVariants.{Form}
use Rattle.lines.proofs.declare.take_map.Goals as goal

pub returns-in_err-columns : goal.returns-in_err-columns
unfolding record_in
returns-in_err-columns c =
    λ codes.
    let s = c.args.here.line.text.now in
    let q : c.from_residual.result ≡ Err Form = search rules in
    let was : c.read_columns.result ≡ none = search rules in
    took_is c.args.here q
    (took_bad c.args.here
    (ap (map_in (name_in s c.args.x) c.args.constant) (sym was ∙ c.read_columns.ensures)))

pub returns-in_err-first_fault : goal.returns-in_err-first_fault
unfolding record_in repeats reads_unknown exceeds miscounts state_in names_in nests
returns-in_err-first_fault c =
    λ codes.
    let k = c.args.here.held.known in
    let s = c.args.here.line.text.now in
    let t = c.args.here.table.now in
    let x = name_in s c.args.x in
    let bytes = c.in_ok-columns.columns in
    let was : c.read_columns.result ≡ some bytes = search rules in
    let here : some bytes ≡ columns_of (pieces_of c.args.here.line) = sym was ∙ c.read_columns.ensures in
    let F = c.in_err-first_fault in
    let q : c.from_residual-in_err-first_fault.result ≡ Err F.field-0.0 = search rules in
    took_is c.args.here q
    (took_fault c.args.here (map x c.args.constant bytes) (ap (map_in x c.args.constant) here)
    (λ y z. record {
      repeats = rw c.set-set.ensures at c.is_given-given.ensures;
      unknown = refl;
      exceeds = ap (λ (i : ℕ). ltb most_maps (i + 1)) (sym (maps-length s (kept t k y) c.args.here.held.sound z));
      miscounts = refl;
      shallow = refl;
    }) F.ensures)

pub invariant_of-result : goal.invariant_of-result
invariant_of-result c =
    let k = c.args.here.held.known in
    let free = no_faults _ _ _ _ _ c.in_ok-first_fault.ensures refl in
    let K = c.args.here.held.sound in
    let more = ltb-false most_maps (k.mapped + 1) free.3 in
    record {
      sound =
          steady k K k.stage k.shares (k.mapped + 1) k.result k.outputs k.named K.shares (omega (arith, more)) K.named
          K.apart;
    }

pub returns : goal.returns
unfolding record_in repeats reads_unknown exceeds miscounts added state_in names_in nests
returns c =
    λ codes.
    let k = c.args.here.held.known in
    let K = c.args.here.held.sound in
    let s = c.args.here.line.text.now in
    let t = c.args.here.table.now in
    let x = name_in s c.args.x in
    let bytes = c.in_ok-columns.columns in
    let was : c.read_columns.result ≡ some bytes = search rules in
    let here : some bytes ≡ columns_of (pieces_of c.args.here.line) = sym was ∙ c.read_columns.ensures in
    let F = c.in_ok-first_fault.ensures in
    let free = no_faults _ _ _ _ _ F refl in
    let few : k.mapped < most_maps = omega (arith, ltb-false most_maps (k.mapped + 1) free.3) in
    took_grown c.args.here (map x c.args.constant bytes) (ap (map_in x c.args.constant) here)
    (λ y z. record {
      repeats = rw c.set-set.ensures at c.is_given-given.ensures;
      unknown = refl;
      exceeds = ap (λ (i : ℕ). ltb most_maps (i + 1)) (sym (maps-length s (kept t k y) c.args.here.held.sound z));
      miscounts = refl;
      shallow = refl;
    }) _ F refl few tt
    (λ y z. map-means s (kept t k y) K z c.args.x _ _ few refl)
