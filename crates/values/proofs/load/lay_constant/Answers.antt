-- `values::load::lay_constant` meets its contract. No term for 0, else a row with the constant in front. Assumes
-- nothing.
use Rattle.values.proofs.Laws.Laying.{lay-constant_law}
use Rattle.values.proofs.load.lay_constant.Goals as goal

pub returns : goal.returns
returns c =
    let p = c.requires in
    let if1 = c.if-c-eq0 in
    let write-at = c.write_at in
    lay-constant_law _ _ _ _ _ if1.false p write-at.ensures
