-- `values::view::View::locate` meets its contract. Both arms by their law. Assumes nothing.
use mathlib.Core.Path.{subst, sym}
use Rattle.rules.specs.declared.types.Operand.{Operand}
use Rattle.values.specs.declared.source.Source.TheVariants.{Constant}
use Rattle.values.specs.Source.{Located}
use Rattle.values.proofs.Laws.Sources.{located_byte}
use Rattle.values.proofs.view.View.locate.Goals as goal

pub returns-in-Byte : goal.returns-in-Byte
returns-in-Byte c =
    let a = c.args in
    subst (λ (o : Operand). Located a.self.scope a.self.shelf o (Constant c.in-Byte.c))
    (sym c.in-Byte.is) (located_byte a.self.scope a.self.shelf _)
