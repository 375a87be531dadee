-- The code's stages, by their numbers. Assumes nothing.
use Rattle.std.specs.Prelude.{ℕ}
use Rattle.lines.specs.declared.order.Stage.{Stage}
use Rattle.lines.specs.declared.order.Stage.TheVariants.{Start, Maps, Inputs, Origin, Result, Masked, End}
use Rattle.rules.specs.Order.{at_start, in_maps, in_inputs, in_origin, at_result, in_masked, at_end}

-- the number of a stage
abbrev pub stage_of : Stage → ℕ
stage_of Start = at_start
stage_of Maps = in_maps
stage_of Inputs = in_inputs
stage_of Origin = in_origin
stage_of Result = at_result
stage_of Masked = in_masked
stage_of End = at_end
