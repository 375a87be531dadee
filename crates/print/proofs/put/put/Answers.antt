-- `print::put::put` meets its contract. Assumes nothing.
use Rattle.print.proofs.Laws.Put.{put_part}
use Rattle.print.proofs.put.put.Goals as goal

pub returns : goal.returns
returns c = put_part _ _ _ c.copy_from_slice.ensures.after c.requires
