-- `values::load::lay_stored` meets its contract. Bytes written are terms laid. Assumes nothing.
use Rattle.values.proofs.Laws.Laying.{lay-stored_law}
use Rattle.values.proofs.load.lay_stored.Goals as goal

pub returns : goal.returns
returns c =
    lay-stored_law _ _ _ _ _ _ _ c.requires
    c.write_at.ensures
