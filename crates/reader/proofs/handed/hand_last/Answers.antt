-- The bytes of the line. Assumes nothing.
use mathlib.Core.Path.{refl}
use Rattle.reader.specs.Reader.{last_given}
use Rattle.reader.proofs.handed.hand_last.Goals as goal

pub returns : goal.returns
unfolding last_given
returns c =
    rw (c.last_refusal.ensures, c.part.ensures) refl
