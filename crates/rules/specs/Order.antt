-- The order of records (refusal 6): the stages of a text, where each word may stand, and the stage after it.
-- Assumes nothing.
use Rattle.std.specs.Prelude.{ℕ, Bool, false, ◌||◌, eqb}
use Rattle.tokens.specs.declared.word.Word.{Word}
use Rattle.tokens.specs.declared.word.Word.TheVariants.{Shares, Map, Input, Origin, Set, Xor, Mul, App, Let, Rand}
use Rattle.tokens.specs.declared.word.Word.TheVariants.{Result, Masked, Output, Unknown}

-- nothing is read yet
abbrev pub at_start : ℕ
at_start = 0

-- behind `shares`, or behind a map
abbrev pub in_maps : ℕ
in_maps = 1

-- behind an input
abbrev pub in_inputs : ℕ
in_inputs = 2

-- in the origin block
abbrev pub in_origin : ℕ
in_origin = 3

-- behind `result`
abbrev pub at_result : ℕ
at_result = 4

-- in the masked block
abbrev pub in_masked : ℕ
in_masked = 5

-- behind `output`
abbrev pub at_end : ℕ
at_end = 6

-- the word may stand at the stage
abbrev pub may_stand : Word → ℕ → Bool
may_stand Shares stage = eqb stage at_start
may_stand Map stage = eqb stage in_maps
may_stand Input stage = eqb stage in_maps || eqb stage in_inputs
may_stand Origin stage = eqb stage in_maps || eqb stage in_inputs
may_stand Set stage = eqb stage in_origin || eqb stage in_masked
may_stand Xor stage = eqb stage in_origin || eqb stage in_masked
may_stand Mul stage = eqb stage in_origin || eqb stage in_masked
may_stand App stage = eqb stage in_origin || eqb stage in_masked
may_stand Let stage = eqb stage in_origin || eqb stage in_masked
may_stand Rand stage = eqb stage in_masked
may_stand Result stage = eqb stage in_origin
may_stand Masked stage = eqb stage at_result
may_stand Output stage = eqb stage in_masked
may_stand Unknown stage = false

-- the stage behind a word that may stand at a stage
abbrev pub stage_after : Word → ℕ → ℕ
stage_after Shares stage = in_maps
stage_after Map stage = in_maps
stage_after Input stage = in_inputs
stage_after Origin stage = in_origin
stage_after Set stage = stage
stage_after Xor stage = stage
stage_after Mul stage = stage
stage_after App stage = stage
stage_after Let stage = stage
stage_after Rand stage = stage
stage_after Result stage = at_result
stage_after Masked stage = in_masked
stage_after Output stage = at_end
stage_after Unknown stage = stage
