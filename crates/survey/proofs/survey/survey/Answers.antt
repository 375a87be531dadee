-- Given up in the origin block, or as the masked one is. Assumes nothing.
use Rattle.std.proofs.Common.{◌≡◌, Err, rules}
use Rattle.values.proofs.Laws.Shelves.{bare-sound}
use Rattle.survey.proofs.Laws.Asking.{block-asked, lent-kept, origin-narrow, origin-asked, origin-walked}
use Rattle.survey.proofs.Laws.Asking.{masked-asked, masked-walked}
use Rattle.survey.proofs.Laws.Surveys.{surveyed-first, origin-begun, surveyed}
use Rattle.survey.proofs.survey.survey.Goals as goal

pub invariant_of-walk_block : goal.invariant_of-walk_block
invariant_of-walk_block c =
    record { narrow = origin-narrow c.args.r.ready (rw c.empty-shelf.ensures bare-sound) c.origin_scope-scope.ensures }

pub walk_block-requires : goal.walk_block-requires
walk_block-requires c =
    let a = c.args in
    origin-asked (block-asked a.r.routine _ _ a.left.now a.right.now a.r.ready c.requires c.list_maps-t.ensures.lists
    c.list_maps-t.ensures.constants) _ _ c.origin_scope-scope.ensures c.empty-shelf.ensures

pub returns-in_err-d : goal.returns-in_err-d
returns-in_err-d c =
    let w = origin-walked c.args.r.routine c.origin_scope-scope.ensures c.empty-shelf.ensures c.walk_block.ensures in
    let e : c.from_residual.result ≡ Err c.in_err-d.field-0.0 = search rules in
    rw e (surveyed-first c.args.r.ready w c.in_err-d.was)

pub walk_block-requires-2 : goal.walk_block-requires-2
walk_block-requires-2 c =
    let a = c.args in
    let w = origin-walked a.r.routine c.origin_scope-scope.ensures c.empty-shelf.ensures c.walk_block.ensures in
    masked-asked (block-asked a.r.routine _ _ _ _ a.r.ready
    (lent-kept a.left.now a.right.now _ _ c.walk_block.auto.left c.walk_block.auto.right c.requires)
    c.list_maps-t.ensures.lists c.list_maps-t.ensures.constants) _ _ c.masked_scope-scope.ensures
    (origin-begun a.r.ready w c.in_ok-d.was)

pub returns : goal.returns
returns c =
    let a = c.args in
    let w = origin-walked a.r.routine c.origin_scope-scope.ensures c.empty-shelf.ensures c.walk_block.ensures in
    surveyed a.r.ready w c.in_ok-d.was (masked-walked a.r.routine c.masked_scope-scope.ensures c.walk_block-2.ensures)
