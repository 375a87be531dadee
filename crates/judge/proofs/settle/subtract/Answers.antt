-- `judge::settle::subtract` meets its contract. One sum of the terms of the result and of all outputs. Assumes nothing.
use Rattle.judge.proofs.Laws.Lasts.{located_at, last-asked, last-formed}
use Rattle.judge.proofs.settle.subtract.Goals as goal

pub form_difference-requires : goal.form_difference-requires
form_difference-requires c =
    let a' = c.args in
    let p = c.requires in
    let origin-scope = c.origin_scope-scope in
    let place = c.place-a in
    let masked-scope = c.masked_scope-scope in
    let a = a' in
    last-asked a.r.ready p.standing
    (located_at a.r.routine a.d _ _ origin-scope.ensures place.ensures)
    p.lent p.fits masked-scope.ensures

pub returns : goal.returns
returns c =
    let a' = c.args in
    let p = c.requires in
    let origin-scope = c.origin_scope-scope in
    let place = c.place-a in
    let masked-scope = c.masked_scope-scope in
    let form-difference = c.form_difference in
    let a = a' in
    last-formed a.r.ready p.standing
    (located_at a.r.routine a.d _ _ origin-scope.ensures place.ensures)
    p.lent p.fits masked-scope.ensures _ _ form-difference.ensures
