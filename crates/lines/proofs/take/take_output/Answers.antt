-- The names are compared and looked up. Assumes nothing.
use Rattle.lookup.specs.Names.{names_in}
use Rattle.grammar.specs.Record.{nests}
use Rattle.std.specs.Prelude.{Option, None as none, Some as some}
use mathlib.Core.Bool.{not}
use lib.Dec.{eqb}
use Rattle.grammar.specs.Recorded.{names_of, names_read, record_in}
use Rattle.tokens.specs.Token.{Name, ◌>>=◌}
use Rattle.grammar.specs.TextLine.{pieces_of}
use Rattle.grammar.specs.Record.{output}
use Rattle.rules.specs.Grown.{with_outputs}
use Rattle.rules.specs.Faults.{repeats, reads_unknown, exceeds, miscounts}
use Rattle.rules.specs.Added.{added}
use Rattle.lines.specs.Known.{kept, state_in}
use Rattle.lookup.proofs.Laws.Named.{read_length}
use Rattle.lines.proofs.Laws.Taking.{took_bad, took_is, took_fault, took_set}
use Rattle.std.proofs.Common.{rules}
use Rattle.std.specs.Prelude.{Err}
use Prim.Native.Nat.{ℕ}
use mathlib.Core.Path.{◌≡◌, refl, ap, sym}
use mathlib.Core.List.{List}
use native.Mathlib.Omega.{arith}
use Rattle.tokens.specs.declared.refusal.Refusal.TheVariants.{Form}
use Rattle.lines.proofs.take.take_output.Goals as goal

pub returns-in_err-read : goal.returns-in_err-read
unfolding record_in
returns-in_err-read c =
    λ codes.
    let s = c.args.here.line.text.now in
    let q : c.from_residual.result ≡ Err Form = search rules in
    let was : c.read_outputs.result ≡ none = search rules in
    let here : none ≡ names_of (pieces_of c.args.here.line) = rw was at c.read_outputs.ensures in
    took_is c.args.here q
    (took_bad c.args.here (ap (λ (o : Option (List Name)). o >>= λ xs. some (output xs)) here))

pub returns-in_err-first_fault : goal.returns-in_err-first_fault
unfolding record_in repeats reads_unknown exceeds miscounts state_in names_in names_read nests
returns-in_err-first_fault c =
    λ codes.
    let k = c.args.here.held.known in
    let s = c.args.here.line.text.now in
    let t = c.args.here.table.now in
    let R = c.in_ok-read.read in
    let ns : List Name = names_read s R in
    let was : c.read_outputs.result ≡ some R = search rules in
    let here : some ns ≡ names_of (pieces_of c.args.here.line) = rw was at c.read_outputs.ensures in
    let long = read_length s R (omega arith) in
    let F = c.in_err-first_fault in
    let q : c.from_residual-in_err-first_fault.result ≡ Err F.field-0.0 = search rules in
    took_is c.args.here q
    (took_fault c.args.here (output ns)
    (ap (λ (o : Option (List Name)). o >>= λ xs. some (output xs)) here)
    (λ y z. record {
      repeats = c.is_repeated-repeats.ensures;
      unknown = (rw c.set-set.ensures at c.find_outputs-found.ensures).unknown;
      exceeds = refl;
      miscounts = ap (λ (i : ℕ). not (eqb i k.shares)) (sym long);
      shallow = refl;
    }) F.ensures)

pub returns : goal.returns
unfolding record_in repeats reads_unknown exceeds miscounts added state_in names_in names_read with_outputs nests
returns c =
    λ codes.
    let k = c.args.here.held.known in
    let K = c.args.here.held.sound in
    let s = c.args.here.line.text.now in
    let t = c.args.here.table.now in
    let R = c.in_ok-read.read in
    let ns : List Name = names_read s R in
    let was : c.read_outputs.result ≡ some R = search rules in
    let here : some ns ≡ names_of (pieces_of c.args.here.line) = rw was at c.read_outputs.ensures in
    let long = read_length s R (omega arith) in
    let found = rw c.set-set.ensures at c.find_outputs-found.ensures in
    took_set c.args.here (output ns)
    (ap (λ (o : Option (List Name)). o >>= λ xs. some (output xs)) here)
    (λ y z. record {
      repeats = c.is_repeated-repeats.ensures;
      unknown = found.unknown;
      exceeds = refl;
      miscounts = ap (λ (i : ℕ). not (eqb i k.shares)) (sym long);
      shallow = refl;
    })
    c.in_ok-first_fault.ensures _ refl
    (λ y. ap (λ (l : List ℕ). with_outputs l (state_in s (kept t k y))) found.places)
