use Rattle.std.proofs.Common.{◌≡◌, ◌+◌, ◌<◌, ◌≤◌, length, arith, rules}
use Rattle.survey.proofs.Laws.Walks.{part-at, walk-over, form-asked, shelf_room}
use Rattle.survey.proofs.Laws.Walks.{holds_more, walk-done}
use Rattle.survey.proofs.walk.walk_block.Goals as goal

pub returns-then-most-shelf : goal.returns-then-most-shelf
returns-then-most-shelf c =
    let long : length c.args.r.statements ≡ 256 = search rules in
    let l : c.args.from + c.loop-statement.statement-index < c.args.to = search rules in
    walk-over long c.args.v.narrow c.requires c.loop-statement.invariant l
    (part-at c.args.r.statements c.args.from c.args.to c.loop-statement.statement-index (omega arith))
    c.find-found.ensures c.raw_size-raw.ensures c.if-most-shelf.true

pub form_value-k-requires : goal.form_value-k-requires
form_value-k-requires c =
    let long : length c.args.r.statements ≡ 256 = search rules in
    let l : c.args.from + c.loop-statement.statement-index < c.args.to = search rules in
    form-asked long c.args.v.narrow c.requires c.loop-statement.invariant l
    (part-at c.args.r.statements c.args.from c.args.to c.loop-statement.statement-index (omega arith))
    c.find-found.ensures c.raw_size-raw.ensures c.if-most-shelf.false c.loop-statement.right c.loop-statement.auto.right

pub put-requires : goal.put-requires
put-requires c =
    let long : length c.args.r.statements ≡ 256 = search rules in
    let l : c.args.from + c.loop-statement.statement-index < c.args.to = search rules in
    let room = shelf_room long c.args.v.narrow c.requires c.loop-statement.invariant l
    (part-at c.args.r.statements c.args.from c.args.to c.loop-statement.statement-index (omega arith))
    c.find-found.ensures c.raw_size-raw.ensures c.if-most-shelf.false c.form_value-k.ensures in
    record { place = room.0; room = room.1 }

pub loop-statement-preserved : goal.loop-statement-preserved
loop-statement-preserved c =
    let long : length c.args.r.statements ≡ 256 = search rules in
    let k = c.loop-statement.statement-index in
    let l : c.args.from + k < c.args.to = search rules in
    let next : c.args.from + (k + 1) ≡ c.args.from + k + 1 = omega arith in
    rw (c.put.ensures, next)
    (holds_more long c.args.v.narrow c.requires c.loop-statement.invariant l
    (part-at c.args.r.statements c.args.from c.args.to k (omega arith))
    c.find-found.ensures c.raw_size-raw.ensures c.if-most-shelf.false c.form_value-k.ensures)

pub returns : goal.returns
returns c =
    let long : length c.args.r.statements ≡ 256 = search rules in
    let done : c.args.to ≤ c.args.from + c.loop-statement.statement-index = search rules in
    walk-done long c.args.v.narrow c.requires _ c.loop-statement.left c.loop-statement.shelf c.loop-statement.invariant done
