-- Run's values are bytes; lists of bytes as a length and a bound for each; encodings parted and poured.
-- Assumes nothing.
use Rattle.std.proofs.Common.{◌≡◌, ℕ, zero, suc, List, [], ◌∷◌, length, sym, refl, ap, subst, arith}
use Rattle.field.specs.Field.{Modulus}
use Rattle.field.specs.Maps.{coefficients_of}
use Rattle.field.proofs.Laws.Field.{gf_laws}
use Rattle.field.proofs.Laws.Modulus.{periodic}
use Rattle.field.proofs.Laws.Maps.{series_lt}
use Rattle.field.proofs.Laws.Pairing.{coefficients_represent}
use Rattle.poly.specs.Canon.{ByteList}
use Rattle.verdict.specs.Instances.{bytes}
use Rattle.verdict.specs.Equivalent.{Encodings}
use Rattle.rules.specs.Formed.{Each, IsByte}
use Rattle.verdict.proofs.Laws.Lists.{Square}
use Rattle.verdict.proofs.Laws.Closed.{Closed}
use Rattle.verdict.proofs.Laws.Value.{columns-bytes}

-- the operations on bytes give bytes
pub bytes-closed : {m : ℕ} → Modulus m → Closed (bytes m) IsByte
unfolding bytes
bytes-closed {m} M = record {
  byte = λ c h. h;
  add = λ x y h k. (gf_laws M).ring.add-byte h k;
  mul = λ x y h k. (gf_laws M).ring.mul-byte x y;
  apply = λ f F x h.
      subst IsByte (sym (coefficients_represent M f.constant f.columns (columns-bytes F) x h))
      ((gf_laws M).ring.add-byte F.constant (series_lt (periodic M).ring (coefficients_of m f.columns) x));
}

-- ---- n bytes: a length, and a bound for each

-- each is a byte
pub bytes-each : (n : ℕ) (xs : List ℕ) → ByteList n xs → Each IsByte xs
bytes-each zero [] h = tt
bytes-each zero (x ∷ xs) h = absurd h
bytes-each (suc n) [] h = absurd h
bytes-each (suc n) (x ∷ xs) h = (omega (arith, h.0), bytes-each n xs h.1)

-- there are n of them
pub bytes-length : (n : ℕ) (xs : List ℕ) → ByteList n xs → length xs ≡ n
bytes-length zero [] h = refl
bytes-length zero (x ∷ xs) h = absurd h
bytes-length (suc n) [] h = absurd h
bytes-length (suc n) (x ∷ xs) h = ap suc (bytes-length n xs h.1)

-- n bytes
pub bytes_of_lem : (n : ℕ) (xs : List ℕ) → length xs ≡ n → Each IsByte xs → ByteList n xs
bytes_of_lem zero [] e h = tt
bytes_of_lem zero (x ∷ xs) e h = omega arith
bytes_of_lem (suc n) [] e h = omega arith
bytes_of_lem (suc n) (x ∷ xs) e h = (omega (arith, h.0), bytes_of_lem n xs (omega arith) h.1)

-- ---- encodings

-- m encodings of k bytes are m lists of k elements
pub encodings_square : (k m : ℕ) (ss : List (List ℕ)) → Encodings k m ss → Square k m ss
encodings_square k zero [] h = tt
encodings_square k zero (s ∷ ss) h = absurd h
encodings_square k (suc m) [] h = absurd h
encodings_square k (suc m) (s ∷ ss) h = (bytes-length k s h.0, encodings_square k m ss h.1)

-- whose elements are bytes
pub encodings_each : (k m : ℕ) (ss : List (List ℕ)) → Encodings k m ss → Each (Each IsByte) ss
encodings_each k zero [] h = tt
encodings_each k zero (s ∷ ss) h = absurd h
encodings_each k (suc m) [] h = absurd h
encodings_each k (suc m) (s ∷ ss) h = (bytes-each k s h.0, encodings_each k m ss h.1)

-- and such lists are encodings
pub encodings_of : (k m : ℕ) (ss : List (List ℕ)) → Square k m ss → Each (Each IsByte) ss → Encodings k m ss
encodings_of k zero [] q h = tt
encodings_of k zero (s ∷ ss) q h = absurd q
encodings_of k (suc m) [] q h = absurd q
encodings_of k (suc m) (s ∷ ss) q h = (bytes_of_lem k s q.0 h.0, encodings_of k m ss q.1 h.1)
