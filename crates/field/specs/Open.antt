-- One name that opens every definition of the field, for examples that are computed: `unfolding field_open`.
-- Assumes nothing.
use Rattle.field.specs.Xor.{◌⊕◌}
use Rattle.field.specs.Field.{double, shifted, times}
use Rattle.field.specs.Maps.{sum, list_of, linear, affine, dual_of, coefficient, coefficients, coefficients_of}

-- opens every definition of the field
unfoldable pub field_open : Unit {0}
unfolding ◌⊕◌ double shifted times sum list_of linear affine dual_of coefficient coefficients coefficients_of
field_open = tt
