-- Terms in a buffer: how many, in two parts, unchanged where the bytes are, and of bytes. Assumes nothing.
use mathlib.Core.Path.{◌≡◌, refl, sym, ap, ap₂, ◌∙◌, subst}
use mathlib.Core.List.{List, [], ◌∷◌, ◌++◌}
use Prim.Native.Nat.{ℕ, zero, suc, ◌+◌, ◌*◌, ◌-◌, ◌≤◌, ◌<◌, min}
use native.Mathlib.Omega.{arith}
use native.Mathlib.Nat.{suc-mul, suc-add, zero-mul as nat-zero-mul, zero-add}
use lib.ListN.{length, get_or, take, drop, length-take, length-drop}
use lib.Seq.{ext_get_or, get_or-take, get_or-drop, length-take-le, drop-cons}
use Rattle.poly.specs.Poly.{term, Poly}
use Rattle.poly.specs.Canon.{ByteList, Raw}
use Rattle.buffer.specs.Buffer.{term_at, read_terms}

-- as many terms as were read
pub read_length : (n : ℕ) (b : List ℕ) (at m : ℕ) → length (read_terms n b at m) ≡ m
read_length n b at zero = refl
read_length n b at (suc m) = ap suc (read_length n b (at + suc n) m)

-- the first j terms and the m after them
pub read-parts : (n : ℕ) (b : List ℕ) (at j m : ℕ)
    → read_terms n b at (j + m) ≡ read_terms n b at j ++ read_terms n b (at + j * suc n) m
read-parts n b at zero m =
    let e : at ≡ at + zero * suc n = omega (arith, nat-zero-mul (suc n)) in
    ap (read_terms n b at) (zero-add m) ∙ ap (λ (k : ℕ). read_terms n b k m) e
read-parts n b at (suc j) m =
    let e : at + suc n + j * suc n ≡ at + suc j * suc n = omega (arith, suc-mul j (suc n)) in
    ap (read_terms n b at) (suc-add j m)
    ∙ ap {B = Poly} (λ p. term_at n b at ∷ p)
    (read-parts n b (at + suc n) j m ∙ ap (λ (k : ℕ). read_terms n b (at + suc n) j ++ read_terms n b k m) e)

-- one term more at the end
pub read_more : (n : ℕ) (b : List ℕ) (at m : ℕ) → read_terms n b at (suc m) ≡ read_terms n b at
    m ++ (term_at n b (at + m * suc n) ∷ [])
read_more n b at m =
    let e : suc m ≡ m + 1 = omega arith in
    ap (read_terms n b at) e ∙ read-parts n b at m 1

-- ---- two buffers of one length that agree on the bytes of the terms

-- a part of two buffers that agree there
pub part_same : (b b' : List ℕ) (from n : ℕ) → length b ≡ length b'
    → ((i : ℕ) → from ≤ i → i < from + n → get_or b i 0 ≡ get_or b' i 0)
    → take n (drop from b) ≡ take n (drop from b')
part_same b b' from n l h =
    ext_get_or 0 (take n (drop from b)) (take n (drop from b'))
    (length-take n (drop from b) ∙ ap (λ (k : ℕ). min n k)
    (length-drop from b ∙ ap (λ (k : ℕ). k - from) l ∙ sym (length-drop from b')) ∙ sym (length-take n (drop from b')))
    (λ i k.
    let m : i < n = omega (arith, length-take n (drop from b)) in
    get_or-take n (drop from b) i 0 m ∙ get_or-drop from b i 0 ∙ h (from + i) (omega arith) (omega arith)
    ∙ sym (get_or-take n (drop from b') i 0 m ∙ get_or-drop from b' i 0))

-- the terms of two buffers that agree there
pub read_same : (n : ℕ) (b b' : List ℕ) (at m : ℕ) → length b ≡ length b'
    → ((i : ℕ) → at ≤ i → i < at + m * suc n → get_or b i 0 ≡ get_or b' i 0)
    → read_terms n b at m ≡ read_terms n b' at m
read_same n b b' at zero l h = refl
read_same n b b' at (suc m) l h =
    let e : suc m * suc n ≡ m * suc n + suc n = suc-mul m (suc n) in
    ap₂ {C = Poly} ◌∷◌
    (ap₂ term (h at (omega arith) (omega arith)) (part_same b b' (suc at) n l
    (λ i j k. h i (omega arith) (omega arith))))
    (read_same n b b' (at + suc n) m l (λ i j k. h i (omega arith) (omega arith)))

-- ---- bytes

-- a part of a buffer of bytes
part_bytes : (b : List ℕ) (from n : ℕ) → ((i : ℕ) → get_or b i 0 < 256) → from + n ≤ length b
    → ByteList n (take n (drop from b))
part_bytes b from zero h l = tt
part_bytes b from (suc n) h l =
    let k : from < length b = omega arith in
    subst (λ (e : List ℕ). ByteList (suc n) (take (suc n) e)) (sym (drop-cons b from 0 k))
    (omega (arith, h from), part_bytes b (suc from) n h (omega arith))

-- the terms of a buffer of bytes hold bytes
pub read-raw : (n : ℕ) (b : List ℕ) (at m : ℕ) → ((i : ℕ) → get_or b i 0 < 256) → at + m * suc n ≤ length b
    → Raw n (read_terms n b at m)
read-raw n b at zero h l = record { coefs = tt; powers = tt }
read-raw n b at (suc m) h l =
    let e : suc m * suc n ≡ m * suc n + suc n = suc-mul m (suc n) in
    let r = read-raw n b (at + suc n) m h (omega arith) in
    record { coefs = (h at, r.coefs); powers = (part_bytes b (suc at) n h (omega arith), r.powers) }

-- ---- terms that stand k bytes further on in another buffer

-- a part that stands k bytes further on in another buffer
pub part-shift : (b b' : List ℕ) (from k n : ℕ) → from + n ≤ length b → from + k + n ≤ length b'
    → ((i : ℕ) → from ≤ i → i < from + n → get_or b' (i + k) 0 ≡ get_or b i 0)
    → take n (drop (from + k) b') ≡ take n (drop from b)
part-shift b b' from k n l m h =
    let x : length (take n (drop (from + k) b')) ≡ n =
    length-take-le n (drop (from + k) b') (omega (arith, length-drop (from + k) b')) in
    let y : length (take n (drop from b)) ≡ n = length-take-le n (drop from b) (omega (arith, length-drop from b)) in
    ext_get_or 0 (take n (drop (from + k) b')) (take n (drop from b)) (x ∙ sym y) (λ i j.
    let q : i < n = omega arith in
    let s : from + k + i ≡ from + i + k = omega arith in
    get_or-take n (drop (from + k) b') i 0 q ∙ get_or-drop (from + k) b' i 0 ∙ ap (λ (z : ℕ). get_or b' z 0) s
    ∙ h (from + i) (omega arith) (omega arith)
    ∙ sym (get_or-take n (drop from b) i 0 q ∙ get_or-drop from b i 0))

-- terms that stand k bytes further on in another buffer
pub read-shift : (n : ℕ) (b b' : List ℕ) (at k m : ℕ) → at + m * suc n ≤ length b → at + k + m * suc n ≤ length b'
    → ((i : ℕ) → at ≤ i → i < at + m * suc n → get_or b' (i + k) 0 ≡ get_or b i 0)
    → read_terms n b' (at + k) m ≡ read_terms n b at m
read-shift n b b' at k zero l g h = refl
read-shift n b b' at k (suc m) l g h =
    let e : suc m * suc n ≡ m * suc n + suc n = suc-mul m (suc n) in
    let s : at + k + suc n ≡ at + suc n + k = omega arith in
    ap₂ {C = Poly} ◌∷◌
    (ap₂ term (h at (omega arith) (omega arith))
    (ap (λ (x : ℕ). take n (drop x b')) (sym (suc-add at k))
    ∙ part-shift b b' (suc at) k n (omega arith) (omega arith) (λ i j q. h i (omega arith) (omega arith))))
    (ap (λ (x : ℕ). read_terms n b' x m) s
    ∙ read-shift n b b' (at + suc n) k m (omega arith) (omega arith) (λ i j q. h i (omega arith) (omega arith)))

-- ---- a term that was written

-- a term whose bytes stand at `at`
pub term-written : (n : ℕ) (b : List ℕ) (at c : ℕ) (e : List ℕ) → length e ≡ n → at + suc n ≤ length b
    → ((j : ℕ) → j < suc n → get_or b (at + j) 0 ≡ get_or (c ∷ e) j 0) → term_at n b at ≡ term c e
term-written n b at c e s q h =
    let z : at ≡ at + 0 = omega arith in
    let d : length (take n (drop (suc at) b)) ≡ n = length-take-le n (drop (suc at) b)
    (omega (arith, length-drop (suc at) b)) in
    ap₂ term (ap (λ (x : ℕ). get_or b x 0) z ∙ h 0 (omega arith))
    (ext_get_or 0 (take n (drop (suc at) b)) e (d ∙ sym s) (λ j k.
    let u : suc at + j ≡ at + suc j = omega arith in
    get_or-take n (drop (suc at) b) j 0 (omega arith) ∙ get_or-drop (suc at) b j 0 ∙ ap (λ (x : ℕ). get_or b x 0) u
    ∙ h (suc j) (omega arith)))
