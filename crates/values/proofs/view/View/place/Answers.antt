-- `values::view::View::place` meets its contract. Three ways out, each a law of Laws/Sources. Assumes nothing.
use native.Mathlib.Omega.{arith}
use Rattle.values.proofs.Laws.Sources.{located_variables, located_nothing, located_stored}
use Rattle.values.proofs.view.View.place.Goals as goal

pub returns-then-i-s : goal.returns-then-i-s
returns-then-i-s c = located_variables _ _ _ (omega arith)

pub returns-then-d-s : goal.returns-then-d-s
returns-then-d-s c = located_nothing _ _ _ (omega arith) (omega arith) (omega arith)

pub returns : goal.returns
returns c =
    rw (c.from.ensures, c.from-2.ensures)
    (located_stored _ _ _ c.args.self.narrow.sound (omega arith) (omega arith) (omega arith))
