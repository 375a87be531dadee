-- The two kinds of values: bytes, and reduced polynomials in the routine's variables ("Reduced polynomials").
-- Assumes nothing.
use Rattle.std.specs.Prelude.{ℕ}
use Rattle.field.specs.Xor.{◌⊕◌}
use Rattle.field.specs.Field.{times}
use Rattle.field.specs.Laws.{gf}
use Rattle.field.specs.Maps.{affine, coefficients_of}
use Rattle.poly.specs.Poly.{Poly, constant, variable, add_poly, mul_poly, map_poly}
use Rattle.rules.specs.Read.{Routine}
use Rattle.verdict.specs.Lists.{tabulate}
use Rattle.verdict.specs.Meaning.{Algebra, Trace, trace, result_in, difference_in}

-- the low byte of the modulus, x^8+x^4+x^3+x+1 without its x^8
abbrev pub low_byte : ℕ
low_byte = 0x1b

-- the modulus of the routine's field, by its low byte
unfoldable pub modulus_of : Routine → ℕ
modulus_of r = low_byte

-- bytes modulo m
unfoldable pub bytes : ℕ → Algebra ℕ
bytes m = record {
  byte = λ c. c;
  add = ◌⊕◌;
  mul = times m;
  apply = λ f x. affine f.constant f.columns x;
}

-- reduced polynomials whose terms hold n powers, over the bytes modulo m; a map by its coefficients
unfoldable pub polynomials : ℕ → ℕ → Algebra Poly
polynomials m n = record {
  byte = constant n;
  add = add_poly (gf m);
  mul = mul_poly (gf m);
  apply = λ f p. map_poly (gf m) n f.constant (coefficients_of m f.columns) p;
}

-- how many powers a term holds: one for each variable of the routine
unfoldable pub powers_of : Routine → ℕ
powers_of r = r.variables

-- the bytes of a routine's field
unfoldable pub bytes_of : Routine → Algebra ℕ
bytes_of r = bytes (modulus_of r)

-- the reduced polynomials in a routine's variables
unfoldable pub polynomials_of : Routine → Algebra Poly
polynomials_of r = polynomials (modulus_of r) (powers_of r)

-- all values of a routine as polynomials in its variables
unfoldable pub symbolic : Routine → Trace Poly
symbolic r = trace (polynomials_of r) r (tabulate r.variables (variable (powers_of r)))

-- the original's result as a reduced polynomial
unfoldable pub reduced_result : Routine → Poly
reduced_result r = result_in (polynomials_of r) r (symbolic r).origin

-- the reduced difference of the original's result and the joined outputs
unfoldable pub difference : Routine → Poly
difference r = difference_in (polynomials_of r) r (symbolic r)
