-- Worked examples, proved by computation: products of FIPS 197, 4.2, and the coefficients of two maps.
-- Assumes nothing.
use mathlib.Core.Path.{◌≡◌, refl}
use mathlib.Core.List.{[], ◌∷◌}
use Rattle.field.specs.Xor.{◌⊕◌}
use Rattle.field.specs.Field.{double, shifted, times}
use Rattle.field.specs.Maps.{sum, list_of, dual_of, coefficient, coefficients, coefficients_of}

fips_product : times 0x1b 0x57 0x83 ≡ 0xc1
unfolding times shifted double ◌⊕◌
fips_product = refl

fips_product_2 : times 0x1b 0x57 0x13 ≡ 0xfe
unfolding times shifted double ◌⊕◌
fips_product_2 = refl

-- the FIPS 197 map
fips-map : coefficients_of 0x1b (0x1f ∷ 0x3e ∷ 0x7c ∷ 0xf8 ∷ 0xf1 ∷ 0xe3 ∷ 0xc7 ∷ 0x8f ∷ [])
    ≡ 0x05 ∷ 0x09 ∷ 0xf9 ∷ 0x25 ∷ 0xf4 ∷ 0x01 ∷ 0xb5 ∷ 0x8f ∷ []
unfolding times shifted double ◌⊕◌ sum list_of dual_of coefficient coefficients coefficients_of
fips-map = refl

-- squaring
square-map : coefficients_of 0x1b (0x01 ∷ 0x04 ∷ 0x10 ∷ 0x40 ∷ 0x1b ∷ 0x6c ∷ 0xab ∷ 0x9a ∷ []) ≡ 0 ∷ 1 ∷ 0 ∷ 0 ∷ 0 ∷ 0 ∷
    0 ∷ 0 ∷ []
unfolding times shifted double ◌⊕◌ sum list_of dual_of coefficient coefficients coefficients_of
square-map = refl
