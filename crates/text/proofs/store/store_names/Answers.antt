-- In each arm what the record gives is known. Assumes nothing.
use Rattle.lines.specs.declared.step.Put.{Put}
use Rattle.lines.specs.Stored.{name_slot, table_after}
use Rattle.text.proofs.Laws.Stored.{let_one}
use mathlib.Core.Path.{◌≡◌, sym, ap, ◌∙◌}
use Rattle.text.proofs.store.store_names.Goals as goal
use Rattle.text.proofs.store.store_names.Goals.{Start}

-- what the record gives is q: it tells the table
told : (c : Start) {q : Put} → c.args.p ≡ q
    → let a = c.args in table_after a.t.now a.h.known q ≡ table_after a.t.now a.h.known a.p
told c e = ap (table_after c.args.t.now c.args.h.known) (sym e)

pub returns-in-Stated : goal.returns-in-Stated
returns-in-Stated c =
    c.put_values.ensures ∙ let_one c.args.t.now (name_slot c.args.h.known) c.in-Stated.x
    ∙ told (goal.at.returns-in-Stated c).Start c.in-Stated.is
