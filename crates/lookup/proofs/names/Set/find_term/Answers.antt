-- A name is looked up, a byte is itself. Assumes nothing.
use Rattle.lookup.proofs.Laws.Finding.{term-name, term-byte}
use Rattle.lookup.proofs.Laws.Named.{listed-length}
use Rattle.lookup.specs.Names.{names_in, given_in}
use mathlib.Core.Path.{sym}
use Rattle.lookup.proofs.names.Set.find_term.Goals as goal

pub returns-in-Name : goal.returns-in-Name
unfolding names_in
returns-in-Name c =
    let l = c.args.self in
    term-name l.text.now (given_in l) _ c.in-Name.is c.find-place.ensures _ c.is_none.ensures
    l.names.count (sym (listed-length l.text.now l.table.now l.names.from l.names.count)) c.unwrap_or.ensures

pub returns-in-Byte : goal.returns-in-Byte
returns-in-Byte c =
    let l = c.args.self in
    term-byte l.text.now (given_in l) _ c.in-Byte.is
