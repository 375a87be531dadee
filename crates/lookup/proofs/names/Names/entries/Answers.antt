-- The names of the set are a part of the table. Assumes nothing.
use Rattle.lookup.proofs.Laws.Placing.{names_part}
use Rattle.grammar.specs.Line.{name_in}
use Prim.Native.Nat.{ℕ, ◌+◌, ◌-◌}
use native.Mathlib.Omega.{arith}
use lib.ListN.{take, drop}
use mathlib.Core.List.{map}
use mathlib.Core.Path.{◌≡◌, ap, ◌∙◌}
use Rattle.lookup.proofs.names.Names.entries.Goals as goal

pub returns : goal.returns
returns c =
    λ s.
    let a = c.args in
    let size : a.self.from + a.self.count - a.self.from ≡ a.self.count = omega arith in
    ap (λ (m : ℕ). map (name_in s) (take m (drop a.self.from a.t.now))) size
    ∙ names_part s a.t.now a.self (omega arith)
