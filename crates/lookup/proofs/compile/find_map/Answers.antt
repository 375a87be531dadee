-- The name of the map, at its place in the text. Assumes nothing.
use Rattle.lookup.proofs.Laws.Looking.{map-looked}
use Rattle.lookup.specs.Compiled.{maps_in, looked}
use Rattle.lookup.specs.Found.{term_found}
use Rattle.lookup.specs.declared.compile.Compiled.{Compiled}
use Rattle.tokens.specs.Ascii.{is_mark}
use Rattle.tokens.specs.Split.{until}
use Rattle.tokens.specs.Token.{◌>>=◌, Name, name, read_name}
use Rattle.std.proofs.Common.{rules}
use Rattle.std.specs.Prelude.{Option, Some, None}
use Prim.Native.Nat.{◌+◌}
use lib.ListN.{drop}
use mathlib.Core.Path.{◌≡◌, ap, ◌∙◌}
use Rattle.lookup.proofs.compile.find_map.Goals as goal
use Rattle.lookup.proofs.compile.find_map.Goals.{Start}

-- the outcome, by the name that was read
abbrev told : (c : Start) → Option Name → Option Compiled
told c o =
    let a = c.args in
    o >>= λ g. Some (looked (a.at + until is_mark (drop a.at a.w.field.now))
    (term_found (maps_in a.w) (name g))
    a.done)

pub returns-in_err-g : goal.returns-in_err-g
returns-in_err-g c =
    let a = c.args in
    let q : c.from_residual.result ≡ None = search rules in
    q ∙ ap (told (goal.at.returns-in_err-g c).Start) (c.in_err-g.ensures
    ∙ ap read_name
    (map-looked a.w a.at _ c.requires.0 c.requires.1 c.find_mark-mark.ensures))

pub returns : goal.returns
returns c =
    let a = c.args in
    let m = c.find_mark-mark.ensures in
    (λ i. Some (c.made.ensures i)) ∙ (λ i. Some (looked (m i) (c.find_term-x.ensures i) a.done))
    ∙ ap (told (goal.at.returns c).Start) (c.in_ok-g.ensures
    ∙ ap read_name (map-looked a.w a.at _ c.requires.0 c.requires.1 m))
