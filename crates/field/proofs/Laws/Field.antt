-- Both moduli give a field with the one record of laws.
-- Assumes nothing.
use mathlib.Core.Path.{sym, ◌∙◌}
use Prim.Native.Nat.{ℕ}
use Rattle.field.specs.Field.{Modulus}
use Rattle.field.specs.Laws.{Laws, gf}
use Rattle.field.proofs.Laws.Powers.{power-squared, fermat, factor-zero}
use Rattle.field.proofs.Laws.Modulus.{periodic}

-- the one record of laws, for either modulus
pub gf_laws : {m : ℕ} → Modulus m → Laws (gf m)
gf_laws M = record {
  ring = (periodic M).ring;
  no_zero = factor-zero (periodic M);
  eight_squares = λ a h. sym (power-squared (periodic M).ring 8 a h) ∙ fermat (periodic M) a h;
}
