use lib.Seq.{take-suc-set}
use lib.ListN.{length-set}
use native.Mathlib.Numerals.{add-one}
use mathlib.Core.List.{List, [], ◌∷◌, ◌++◌, map}
use Rattle.rules.specs.Scope.{place_of, missing}
use Rattle.rules.proofs.Laws.Listing.{any_next, any-done, map_next, map-done}
use Rattle.tokens.specs.Token.{Name}
use Rattle.grammar.specs.Recorded.{names_read}
use Rattle.grammar.specs.Line.{name_in}
use Rattle.lookup.specs.Names.{nowhere, names_in, given_in}
use Rattle.lookup.proofs.Laws.Named.{read_length, read_at, listed-length}
use Rattle.lookup.proofs.Laws.Placing.{found-missing, found-place}
use native.Mathlib.Omega.{arith}
use Prim.Native.Nat.{ℕ, ◌+◌}
use mathlib.Core.Path.{◌≡◌, ap, sym, ◌∙◌}
use lib.ListN.{length, take, drop, set}
use Rattle.lookup.proofs.names.Set.find_outputs.Goals as goal

pub loop-i-preserved : goal.loop-i-preserved
unfolding names_in
loop-i-preserved c =
    let s = c.args.self.text.now in
    let o = c.args.o in
    let set = c.args.self in
    let ns = names_read s o in
    let long = read_length s o (omega arith) in
    let L = c.loop-i in
    let i = L.i in
    let ms = given_in set in
    let f : Name → ℕ = λ x. place_of x ms in
    let here = read_at s o (omega arith) i (omega arith) in
    let found = c.find-place.ensures in
    let place = c.unwrap_or.result in
    let absent = found-missing ms _ found c.is_none-unknown.result c.is_none-unknown.ensures
    ∙ ap (missing ms) (sym here) in
    let size = listed-length s set.table.now set.names.from set.names.count in
    let placed = c.unwrap_or.ensures ∙ found-place ms _ found (sym size) ∙ ap f (sym here) in
    let longer : take (i + 1) (lib.ListN.set L.places i place) ≡ take i L.places ++ place ∷ [] =
    rw add-one (take-suc-set L.places i place (omega arith)) in (
      length-set L.places i place ∙ L.invariant.0,
      any_next (name_in s nowhere) ns i (missing ms) L.unknown L.invariant.1 (omega arith) absent,
      map_next (name_in s nowhere) ns i f (take i L.places) L.invariant.2 (omega arith) place placed
          ∙ ap (λ (l : List ℕ). l ++ map f (drop (i + 1) ns)) (sym longer),
    )

pub returns : goal.returns
returns c =
    let s = c.args.self.text.now in
    let o = c.args.o in
    let ns = names_read s o in
    let long = read_length s o (omega arith) in
    let L = c.loop-i in
    let i = L.i in
    let ms = given_in c.args.self in
    let all : o.count ≡ i = omega arith in
    record {
      unknown = any-done (name_in s nowhere) ns i (missing ms) L.unknown L.invariant.1 (omega arith);
      places =
          ap (λ (n : ℕ). take n L.places) all
          ∙ map-done (name_in s nowhere) ns i (λ x. place_of x ms) (take i L.places) L.invariant.2 (omega arith);
    }
