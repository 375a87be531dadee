-- `search::put::same_group` meets its contract. Assumes nothing.
use mathlib.Core.Path.{◌∙◌}
use Prim.Native.Nat.{◌*◌, ◌-◌}
use native.Mathlib.Omega.{arith}
use Rattle.search.proofs.Lent.Groups.{compared-next}
use Rattle.search.proofs.put.same_group.Goals as goal

pub returns : goal.returns
returns c =
    let a = c.args in
    c.eq.ensures ∙ compared-next a.i a.w a.b.now (a.j * a.w) (a.k - a.j) c.requires.0 (omega arith)
