-- `judge::settle::choose` meets its contract. The search over the difference, and the front of the list. Assumes
-- nothing.
use Rattle.judge.proofs.Laws.Choosing.{search_asked, chosen-listed}
use Rattle.judge.proofs.settle.choose.Goals as goal

pub search-requires : goal.search-requires
search-requires c =
    search_asked c.args.r.ready c.requires

pub returns : goal.returns
returns c =
    chosen-listed c.args.r.ready c.requires _ _ _ c.search.ensures
