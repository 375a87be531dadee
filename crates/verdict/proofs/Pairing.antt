-- What coefficients gives, for every list of bytes: 12 and eight zeros, or the one list of eight bytes that represents
-- the map.
-- Assumes nothing.
use Rattle.std.proofs.Common.{◌≡◌, ℕ, suc, ◌<◌, ◌≢◌, List, ◌∷◌, length, drop, replicate, sym, ap, ◌∙◌, eq-eqb, ne_eqb}
use Rattle.field.specs.Xor.{◌⊕◌}
use Rattle.field.specs.Field.{times}
use Rattle.field.specs.Field.Modulus.{aes}
use Rattle.field.specs.Maps.{affine, series, coefficients_of, Bytes8}
use Rattle.field.proofs.Laws.Pairing.{coefficients_represent, coefficients-only}
use Rattle.verdict.specs.declared.report.MapReport.{MapReport}
use Rattle.verdict.specs.Instances.{low_byte}
use Rattle.verdict.specs.Coefficients.{map_report, Found}

module _ {list : List ℕ} {a : MapReport} (R : Found list a) where
  -- THEOREM: 12 is given exactly where the list is not nine bytes, with eight zeros
  pub found_twelve : length list ≢ 9 → a ≡ record { coefficients = replicate 8 0; refusal = 12; line = 0 }
  unfolding map_report
  found_twelve h = R.answered ∙ rw (ne_eqb (length list) 9 h)

  -- THEOREM: else the coefficients are those of the eight columns behind the constant
  pub found-taken : length list ≡ 9
      → a ≡ record { coefficients = coefficients_of low_byte (drop 1 list); refusal = 0; line = 0 }
  unfolding map_report
  found-taken h = R.answered ∙ rw (eq-eqb (length list) 9 h)

module _ {c : ℕ} {columns : List ℕ} {a : MapReport} (R : Found (c ∷ columns) a) (B : Bytes8 columns) where
  nine-taken : a.coefficients ≡ coefficients_of low_byte columns
  nine-taken = ap (λ (b : MapReport). b.coefficients) (found-taken R (ap suc B.eight))

  -- THEOREM: they represent the map: its value is c plus the sum of l_j·x^(2^j)
  pub found-represents : (x : ℕ) → x < 256 → affine c columns x ≡ c ⊕ series (times low_byte) a.coefficients x
  found-represents x h =
      coefficients_represent aes c columns B x h
      ∙ ap (λ (l : List ℕ). c ⊕ series (times low_byte) l x) (sym nine-taken)

  -- THEOREM: and no other list of eight bytes does
  pub found-only : (l : List ℕ) → Bytes8 l → ((x : ℕ) → x < 256 → affine c columns x ≡ c ⊕ series (times low_byte) l x)
      → l ≡ a.coefficients
  found-only l C h = coefficients-only aes c columns l B C h ∙ sym nine-taken
