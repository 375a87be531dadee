-- What the operands are found to be, put together. Assumes nothing.
use Rattle.lookup.proofs.Laws.Finding.{set_form, two-form, app-form, rand-form}
use Rattle.lookup.specs.Names.{names_in, given_in}
use Rattle.lookup.proofs.names.Set.find_read.Goals as goal

pub returns-in-Set : goal.returns-in-Set
returns-in-Set c =
    let l = c.args.self in
    set_form l.text.now (given_in l) (names_in l.text.now l.table.now c.args.maps) c.args.v _ c.in-Set.is
    c.find_term-x.ensures

pub returns-in-Two : goal.returns-in-Two
returns-in-Two c =
    let l = c.args.self in
    two-form l.text.now (given_in l) (names_in l.text.now l.table.now c.args.maps) c.args.v _ _ _ c.in-Two.is
    c.find_pair.ensures

pub returns-in-App : goal.returns-in-App
returns-in-App c =
    let l = c.args.self in
    app-form l.text.now (given_in l) (names_in l.text.now l.table.now c.args.maps) c.args.v _ _ c.in-App.is
    c.find_pair-in-App.ensures

pub returns-in-Rand : goal.returns-in-Rand
returns-in-Rand c =
    let l = c.args.self in
    rand-form l.text.now (given_in l) (names_in l.text.now l.table.now c.args.maps) c.args.v c.in-Rand.is
