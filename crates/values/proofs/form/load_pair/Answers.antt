-- `values::form::load_pair` meets its contract. The second load leaves the first. Assumes nothing.
use mathlib.Core.Path.{subst}
use Prim.Native.Nat.{ℕ}
use Rattle.values.specs.Shelf.{Laid}
use Rattle.values.specs.Source.{source_of, source_size}
use Rattle.values.proofs.Laws.Forming.{paired}
use Rattle.values.proofs.form.load_pair.Goals as goal

pub returns : goal.returns
returns c =
    let a = c.args in
    let p = c.requires in
    let load = c.load in
    let size-of = c.size_of in
    let load2 = c.load-2 in
    paired load.new.right _ p load.ensures
    (subst (λ (x : ℕ). Laid a.w load.new.right load2.new.right x (source_size a.b)
    (source_of a.w a.left.now a.b)) size-of.ensures load2.ensures)
