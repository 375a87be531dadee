-- `judge::idle::idle` meets its contract. The result is loaded, and its terms are looked through. Assumes nothing.
use Rattle.judge.proofs.Laws.Lasts.{located_at}
use Rattle.judge.proofs.Laws.Idling.{result-load, result-held, result-idle}
use Rattle.judge.proofs.idle.idle.Goals as goal

pub load-requires : goal.load-requires
load-requires c =
    let origin-scope = c.origin_scope-scope in
    let place = c.place-a in
    result-load c.args.r.ready c.requires (located_at c.args.r.routine c.args.d _ _ origin-scope.ensures place.ensures)

pub count_idle-requires : goal.count_idle-requires
count_idle-requires c =
    let origin-scope = c.origin_scope-scope in
    let place = c.place-a in
    result-held c.args.r.ready c.requires (located_at c.args.r.routine c.args.d _ _ origin-scope.ensures place.ensures)
    c.size_of.ensures c.load.ensures

pub returns : goal.returns
returns c =
    let origin-scope = c.origin_scope-scope in
    let place = c.place-a in
    result-idle c.args.r.ready c.requires (located_at c.args.r.routine c.args.d _ _ origin-scope.ensures place.ensures)
    c.size_of.ensures c.load.ensures c.count_idle.ensures
