-- By the statement's case. Assumes nothing.
use Rattle.field.specs.Field.{times}
use Rattle.field.specs.Xor.{◌⊕◌}
use Rattle.verdict.specs.Instances.{bytes}
use Rattle.verdict.specs.Meaning.{given}
use Rattle.std.proofs.Common.{◌∙◌, ap₂}
use lib.Bits.{bit_xor}
use Rattle.verdict.proofs.block.given.Goals as goal

pub returns-in-Set : goal.returns-in-Set
unfolding given
returns-in-Set c = rw c.in-Set.is c.operand.ensures

pub returns-in-Xor : goal.returns-in-Xor
unfolding given bytes ◌⊕◌
returns-in-Xor c =
    rw c.in-Xor.is
    (ap₂ bit_xor c.operand-in-Xor.ensures c.operand-in-Xor-2.ensures)

pub returns-in-Mul : goal.returns-in-Mul
unfolding given bytes
returns-in-Mul c =
    rw c.in-Mul.is
    (c.times.ensures ∙ ap₂ (times _) c.operand-in-Mul.ensures c.operand-in-Mul-2.ensures)

pub returns-in-App : goal.returns-in-App
unfolding given
returns-in-App c =
    let e = ap₂ (bytes _).apply c.map_at.ensures c.operand-in-App.ensures in
    rw c.in-App.is (c.applied.ensures ∙ e)

pub returns-in-Rand : goal.returns-in-Rand
unfolding given
returns-in-Rand c = rw c.in-Rand.is c.value_at.ensures
