-- `outside::map_numbers` meets its contract: each coefficient is converted to itself. Assumes nothing.
use mathlib.Core.Path.{◌≡◌, ap, ◌∙◌}
use Prim.Native.Nat.{ℕ}
use mathlib.Core.List.{List, ◌∷◌, [], ◌++◌}
use lib.ListN.{length}
use lib.Seq.{ext_get_or}
use native.Mathlib.Omega.{arith}
use Rattle.outside.specs.Numbers.{map_numbers}
use Rattle.outside.proofs.Laws.{eight}
use Rattle.outside.proofs.map_numbers.Goals as goal

pub returns : goal.returns
unfolding map_numbers
returns c =
    let r = c.args.report in
    let items = c.map.ensures.items in
    let size : length c.map.result ≡ 8 = items.long in
    let held : length r.coefficients ≡ 8 = c.well_formed.0.1.1.0.1.0.1 in
    let same : c.map.result ≡ r.coefficients =
    ext_get_or 0 c.map.result r.coefficients (omega arith) (λ i h. (items.at i 0 0 (omega arith)).2.met) in
    ap (λ (l : List ℕ). l ++ c.from-refusal.result ∷ r.line ∷ []) (eight c.map.result size ∙ same)
    ∙ ap (λ (n : ℕ). r.coefficients ++ n ∷ r.line ∷ []) c.from-refusal.ensures
