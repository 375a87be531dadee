-- Definition 1 of source document 002, section 3, as it stands there.
-- Assumes nothing.
use Rattle.std.specs.Prelude.{◌≡◌, ℕ, zero, suc, ◌-◌, ◌*◌, List, [], ◌∷◌, map}
use Rattle.poly.specs.Canon.{ByteList}
use Rattle.rules.specs.Read.{Routine}
use Rattle.verdict.specs.Meaning.{origin_values, masked_values, result_in, outputs_in, joined}
use Rattle.verdict.specs.Instances.{bytes_of}

-- the original, on its inputs
unfoldable pub original : Routine → List ℕ → ℕ
original r a = result_in (bytes_of r) r (origin_values (bytes_of r) r a)

-- the masked form, on the shares of each input and the random bytes: one byte for each name of the output line
unfoldable pub masked : Routine → List (List ℕ) → List ℕ → List ℕ
masked r s rs = outputs_in (bytes_of r) r (masked_values (bytes_of r) r s rs)

-- how many random bytes the masked form draws: the variables that are no input's share
unfoldable pub randoms : Routine → ℕ
randoms r = r.variables - r.inputs * r.shares

-- m encodings of k bytes each
abbrev pub Encodings : ℕ → ℕ → List (List ℕ) → Type 0
Encodings k zero [] = Unit {0}
Encodings k zero (s ∷ ss) = ⊥
Encodings k (suc m) [] = ⊥
Encodings k (suc m) (s ∷ ss) = ByteList k s × Encodings k m ss

-- for all a^1 .. a^m, all r_1 .. r_h and all encodings of k bytes each (k is d + 1): where every a^i is the XOR of its
-- encoding, the original on a^1 .. a^m is the XOR of the masked form on the encodings
unfoldable pub Equivalent : Routine → Type 0
Equivalent r = (a rs : List ℕ) (s : List (List ℕ)) → ByteList r.inputs a → ByteList (randoms r) rs
    → Encodings r.shares r.inputs s → a ≡ map (joined (bytes_of r)) s
    → original r a ≡ joined (bytes_of r) (masked r s rs)
