-- The stage says which block it is. Assumes nothing.
use Rattle.std.proofs.Common.{rules}
use Rattle.rules.specs.Order.{in_masked}
use Rattle.lookup.specs.Names.{names_in}
use Rattle.lines.specs.Stage.{stage_of}
use lib.Dec.{eqb}
use mathlib.Core.Bool.{true, false}
use mathlib.Core.Path.{◌≡◌}
use Rattle.lines.proofs.known.block_names.Goals as goal

pub returns-then-is_masked : goal.returns-then-is_masked
unfolding names_in
returns-then-is_masked c =
    let b : eqb (stage_of c.args.h.known.stage) in_masked ≡ true = search rules in
    λ s t. simp b

pub returns : goal.returns
unfolding names_in
returns c =
    let b : eqb (stage_of c.args.h.known.stage) in_masked ≡ false = search rules in
    λ s t. simp b
