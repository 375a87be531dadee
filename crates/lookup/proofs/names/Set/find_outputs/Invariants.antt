-- The invariant: the first i names are looked up. Assumes nothing.
use mathlib.Core.Bool.{◌||◌}
use mathlib.Core.List.{◌++◌, map}
use Rattle.tokens.specs.Ascii.{any}
use Rattle.rules.specs.Scope.{place_of, missing}
use Rattle.grammar.specs.Recorded.{names_read}
use Rattle.lookup.specs.Names.{given_in}
use mathlib.Core.Path.{◌≡◌}
use lib.ListN.{length, take, drop}
use Rattle.lookup.proofs.names.Set.find_outputs.Given as goal

abbrev pub invariant-loop-i : goal.invariant-loop-i
invariant-loop-i l =
    let ms = given_in l.fn.self in
    let ns = names_read l.fn.self.text.now l.fn.o in
    (length l.places ≡ 8)
    × (any (missing ms) ns ≡ l.unknown || any (missing ms) (drop l.i ns))
    × (map (λ x. place_of x ms) ns ≡ take l.i l.places ++ map (λ x. place_of x ms) (drop l.i ns))
