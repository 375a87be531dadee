-- An input is idle under run, by its shares, exactly where it is idle for the original, by its value: bytes that differ
-- in the shares of one input alone join to inputs that differ there alone, and each input is its own first share.
-- Assumes nothing.
use Rattle.std.proofs.Common.{◌≡◌, ℕ, zero, suc, ◌+◌, ◌-◌, ◌*◌, ◌<◌, ◌≤◌, ◌≢◌, ◌↔◌, List, [], ◌∷◌, ◌++◌, map, length, get_or, take, drop, set, replicate, sym, refl, ap, ◌∙◌, subst, ap₂, mul-le-mul_right, suc-mul, zero-mul, arith, length-append, length-drop, length-set, length-take, get_or-drop, get_or-set_other, get_or-take, get_or-set_same, drop-drop, drop-set-lt, ext_get_or}
use native.Mathlib.Decide.{ℕ_discrete, dec_le}
use lib.ListN.{length-replicate, length-map}
use lib.ListN.{get_or-map}
use lib.Seq.{take-set-le, take-set-lt, drop-set-add}
use Rattle.field.specs.Xor.{◌⊕◌}
use Rattle.field.proofs.Laws.Xor.{⊕-zero}
use Rattle.poly.specs.Canon.{ByteList}
use Rattle.poly.proofs.Laws.Put.{set-bytes}
use Rattle.rules.specs.Read.{Routine}
use Rattle.rules.specs.Formed.{Each, IsByte, Formed}
use Rattle.verdict.specs.Lists.{lots, poured}
use Rattle.verdict.specs.Meaning.{joined}
use Rattle.verdict.specs.Instances.{modulus_of, bytes, bytes_of}
use Rattle.verdict.specs.Equivalent.{original}
use Rattle.verdict.specs.Run.{result_at}
use Rattle.verdict.specs.Idle.{ShareOf, Unmoved, Indifferent, IdleInputs, UnmovedInputs}
use Rattle.verdict.proofs.Laws.Lists.{Square, parts-poured, each-poured, each-replicate, each-lots}
use Rattle.rules.proofs.Laws.Letting.{each_append}
use Rattle.verdict.proofs.Laws.Lists.{each_map, each_at, length-poured, square-lots, length-lots}
use Rattle.verdict.proofs.Laws.Closed.{joined-closed}
use Rattle.verdict.proofs.Laws.Value.{modulus_of_lem}
use Rattle.verdict.proofs.Laws.Bytes.{bytes-closed, bytes-each, bytes-length, bytes_of_lem}
use Rattle.verdict.proofs.Laws.Definition.{result-original}
use Rattle.verdict.proofs.Laws.Idle.{tally_map}

-- ---- lots of a list

-- lot j
lots-at : (k m : ℕ) (xs : List ℕ) (j : ℕ) → j < m → get_or (lots k m xs) j [] ≡ take k (drop (j * k) xs)
lots-at k zero xs j l = absurd (omega arith)
lots-at k (suc m) xs zero l = ap (λ (n : ℕ). take k (drop n xs)) (sym (zero-mul k))
lots-at k (suc m) xs (suc j) l =
    let e : k + j * k ≡ suc j * k = omega (arith, suc-mul j k) in
    lots-at k m (drop k xs) j (omega arith)
    ∙ ap (take k) (drop-drop (j * k) k xs ∙ ap (λ (n : ℕ). drop n xs) e)

-- lots of two lists that agree there
lot_same : (k from : ℕ) (xs ys : List ℕ) → length xs ≡ length ys
    → ((v : ℕ) → from ≤ v → v < from + k → get_or xs v 0 ≡ get_or ys v 0) → take k (drop from xs) ≡ take k (drop from ys)
lot_same k from xs ys n h =
    ext_get_or 0 (take k (drop from xs)) (take k (drop from ys))
    (omega
    (arith, length-take k (drop from xs), length-take k (drop from ys), length-drop from xs, length-drop from ys))
    (λ j l.
    let q : j < k = omega (arith, length-take k (drop from xs)) in
    get_or-take k (drop from xs) j 0 q ∙ get_or-drop from xs j 0 ∙ h (from + j) (omega arith) (omega arith)
    ∙ sym (get_or-take k (drop from ys) j 0 q ∙ get_or-drop from ys j 0))

-- the first share of input j set
share-set : {X Y : Type 0} (J : List X → Y) (k m j : ℕ) (xs : List X) (c : X) (d : List X)
    → map J (lots (suc k) m (set xs (j * suc k) c))
    ≡ set (map J (lots (suc k) m xs)) j (J (set (get_or (lots (suc k) m xs) j d) 0 c))
share-set J k zero j xs c d = refl
share-set {X} {Y} J k (suc m) zero xs c d =
    ap (λ (i : ℕ). map J (lots (suc k) (suc m) (set xs i c))) (zero-mul (suc k))
    ∙ ap₂ {C = List Y} ◌∷◌ (ap J (take-set-lt (suc k) xs 0 c (omega arith)))
    (ap (λ (ys : List X). map J (lots (suc k) m ys)) (drop-set-lt (suc k) xs 0 c (omega arith)))
share-set {X} {Y} J k (suc m) (suc j) xs c d =
    let e : suc j * suc k ≡ suc k + j * suc k = omega (arith, suc-mul j (suc k)) in
    ap (λ (i : ℕ). map J (lots (suc k) (suc m) (set xs i c))) e
    ∙ ap₂ {C = List Y} ◌∷◌ (ap J (take-set-le (suc k) xs (suc k + j * suc k) c (omega arith)))
    (ap (λ (ys : List X). map J (lots (suc k) m ys)) (drop-set-add (suc k) xs (j * suc k) c)
    ∙ share-set J k m j (drop (suc k) xs) c d)

-- ---- an input as its own first share

-- x, and k zeros
abbrev alone : ℕ → ℕ → List ℕ
alone k x = x ∷ replicate k 0

-- zeros join to zero
joined-zeros : (m k : ℕ) → joined (bytes m) (replicate k 0) ≡ 0
unfolding joined bytes
joined-zeros m zero = refl
joined-zeros m (suc k) = ap (λ (y : ℕ). 0 ⊕ y) (joined-zeros m k) ∙ ⊕-zero 0

-- a byte and zeros join to the byte
joined-alone : (m k x : ℕ) → joined (bytes m) (alone k x) ≡ x
unfolding joined bytes
joined-alone m k x = ap (λ (y : ℕ). x ⊕ y) (joined-zeros m k) ∙ ⊕-zero x

-- so do all inputs
joins_alone : (m k : ℕ) (a : List ℕ) → map (joined (bytes m)) (map (alone k) a) ≡ a
joins_alone m k [] = refl
joins_alone m k (x ∷ a) = ap₂ {C = List ℕ} ◌∷◌ (joined-alone m k x) (joins_alone m k a)

-- each has as many shares
alone-square : (k : ℕ) (a : List ℕ) (m : ℕ) → length a ≡ m → Square (suc k) m (map (alone k) a)
alone-square k [] zero e = tt
alone-square k [] (suc m) e = absurd (omega arith)
alone-square k (x ∷ a) zero e = absurd (omega arith)
alone-square k (x ∷ a) (suc m) e = (ap suc (length-replicate k 0), alone-square k a m (omega arith))

-- which are bytes
alone-each : (k : ℕ) (a : List ℕ) → Each IsByte a → Each (Each IsByte) (map (alone k) a)
alone-each k a h = each_map IsByte (Each IsByte) (alone k) (λ x b. (b, each-replicate IsByte k 0 (omega arith))) a h

module _ (r : Routine) (F : Formed r) (i : ℕ) (li : i < r.inputs) where
  -- the inputs, from the variables
  abbrev inputs : List ℕ → List ℕ
  inputs xs = map (joined (bytes_of r)) (lots r.shares r.inputs xs)

  -- there are as many as the text names
  inputs-length : (xs : List ℕ) → ByteList r.variables xs → length (inputs xs) ≡ r.inputs
  inputs-length xs b =
      length-map (lots r.shares r.inputs xs) (joined (bytes_of r))
      ∙ length-lots r.shares r.inputs (lots r.shares r.inputs xs)
      (square-lots r.shares r.inputs xs (omega (arith, bytes-length r.variables xs b, F.fits)))

  -- they are bytes
  inputs-bytes : (xs : List ℕ) → ByteList r.variables xs → ByteList r.inputs (inputs xs)
  unfolding bytes_of
  inputs-bytes xs b =
      bytes_of_lem r.inputs (inputs xs) (inputs-length xs b)
      (each_map (Each IsByte) IsByte (joined (bytes_of r)) (joined-closed (bytes-closed (modulus_of_lem r)))
      (lots r.shares r.inputs xs)
      (each-lots IsByte r.shares r.inputs xs (bytes-each r.variables xs b)))

  -- input j joins lot j
  input-at : (xs : List ℕ) (j : ℕ) → j < r.inputs
      → get_or (inputs xs) j 0 ≡ joined (bytes_of r) (take r.shares (drop (j * r.shares) xs))
  unfolding bytes_of bytes joined
  input-at xs j l =
      get_or-map (joined (bytes_of r)) (lots r.shares r.inputs xs) j []
      ∙ ap (joined (bytes_of r)) (lots-at r.shares r.inputs xs j l)

  -- ---- by the shares, from by the value

  module _ (xs ys : List ℕ) (b : ByteList r.variables xs) (c : ByteList r.variables ys)
      (same : (v : ℕ) → (ShareOf r i v → ⊥) → get_or xs v 0 ≡ get_or ys v 0) where
    -- another input is the same
    other-input : (j : ℕ) → j < r.inputs → j ≢ i → get_or (inputs ys) j 0 ≡ get_or (inputs xs) j 0
    other-input j l n =
        let k = r.shares in
        input-at ys j l
        ∙ ap (joined (bytes_of r)) (sym (lot_same k (j * k) xs ys
        (bytes-length r.variables xs b ∙ sym (bytes-length r.variables ys c))
        (λ v p q. same v (λ s. apart v p q s (dec_le (suc i) j)))))
        ∙ sym (input-at xs j l)
      where
        apart : (v : ℕ) → j * r.shares ≤ v → v < j * r.shares + r.shares → ShareOf r i v → Dec (suc i ≤ j) → ⊥
        apart v p q s (yes h) = omega (arith, s.1, mul-le-mul_right r.shares h, suc-mul i r.shares)
        apart v p q s (no h) =
            let g : suc j ≤ i = omega arith in
            omega (arith, s.0, mul-le-mul_right r.shares g, suc-mul j r.shares)

    -- so the inputs differ at i alone
    inputs-set : inputs ys ≡ set (inputs xs) i (get_or (inputs ys) i 0)
    inputs-set =
        ext_get_or 0 (inputs ys) (set (inputs xs) i (get_or (inputs ys) i 0))
        (inputs-length ys c ∙ sym (inputs-length xs b) ∙ sym (length-set (inputs xs) i (get_or (inputs ys) i 0)))
        (λ j l. at j (omega (arith, inputs-length ys c)) (ℕ_discrete j i))
      where
        at : (j : ℕ) → j < r.inputs → Dec (j ≡ i)
            → get_or (inputs ys) j 0 ≡ get_or (set (inputs xs) i (get_or (inputs ys) i 0)) j 0
        at j l (yes e) =
            ap (λ (t : ℕ). get_or (inputs ys) t 0) e
            ∙ sym (get_or-set_same (inputs xs) i (get_or (inputs ys) i 0) 0 (omega (arith, inputs-length xs b)))
            ∙ ap (λ (t : ℕ). get_or (set (inputs xs) i (get_or (inputs ys) i 0)) t 0) (sym e)
        at j l (no n) = other-input j l n ∙ sym (get_or-set_other (inputs xs) i j (get_or (inputs ys) i 0) 0 n)

    -- and the original's result is the same
    moved-not : Unmoved r i → result_at r xs ≡ result_at r ys
    unfolding Unmoved
    moved-not h =
        result-original r xs
        ∙ sym (h (inputs xs) (get_or (inputs ys) i 0) (inputs-bytes xs b)
        (each_at IsByte (inputs ys) 0 (bytes-each r.inputs (inputs ys) (inputs-bytes ys c)) (omega arith) i))
        ∙ ap (original r) (sym inputs-set) ∙ sym (result-original r ys)

  -- ---- by the value, from by the shares

  module _ (k : ℕ) (ek : r.shares ≡ suc k) (a : List ℕ) (la : ByteList r.inputs a) where
    -- each input its own first share, and zeros
    abbrev xs : List ℕ
    xs = poured (map (alone k) a) ++ replicate (r.variables - r.inputs * r.shares) 0

    -- the shares of all inputs
    square : Square r.shares r.inputs (map (alone k) a)
    square =
        subst (λ (t : ℕ). Square t r.inputs (map (alone k) a)) (sym ek)
        (alone-square k a r.inputs (bytes-length r.inputs a la))

    -- the lots are the inputs' shares
    parted : lots r.shares r.inputs xs ≡ map (alone k) a
    parted =
        (parts-poured r.shares r.inputs (map (alone k) a) (replicate (r.variables - r.inputs * r.shares) 0)
        square).0

    -- the variables are bytes
    xs-bytes : ByteList r.variables xs
    xs-bytes =
        let n : ℕ = r.variables - r.inputs * r.shares in
        let ss : List (List ℕ) = map (alone k) a in
        bytes_of_lem r.variables xs
        (omega (
          arith,
          length-append (poured ss) (replicate n 0),
          length-poured r.shares r.inputs ss square,
          length-replicate {A = ℕ} n 0,
          F.fits,
        ))
        (each_append IsByte (poured ss) (replicate n 0)
        (each-poured IsByte ss (alone-each k a (bytes-each r.inputs a la)))
        (each-replicate IsByte n 0 (omega arith)))

    -- the inputs are those that were given
    inputs-alone : inputs xs ≡ a
    unfolding bytes_of
    inputs-alone = ap (map (joined (bytes_of r))) parted ∙ joins_alone (modulus_of r) k a

    -- the first share of input i set to b sets the input
    inputs-moved : (b : ℕ) → inputs (set xs (i * r.shares) b) ≡ set a i b
    unfolding bytes_of
    inputs-moved b =
        let J = joined (bytes_of r) in
        subst (λ (n : ℕ). map J (lots n r.inputs (set xs (i * n) b))
        ≡ set (map J (lots n r.inputs xs)) i (J (set (get_or (lots n r.inputs xs) i (alone k 0)) 0 b)))
        (sym ek) (share-set J k r.inputs i xs b (alone k 0))
        ∙ ap₂ (λ (t : List ℕ) (c : ℕ). set t i c) inputs-alone
        (ap (λ (t : List (List ℕ)). J (set (get_or t i (alone k 0)) 0 b)) parted
        ∙ ap (λ (t : List ℕ). J (set t 0 b)) (get_or-map (alone k) a i 0)
        ∙ joined-alone (modulus_of r) k b)

    -- so the original's result stays
    stays : Indifferent r i → (b : ℕ) → b < 256 → original r (set a i b) ≡ original r a
    unfolding Indifferent
    stays h b lb =
        let u : ℕ = i * r.shares in
        let moved : ByteList r.variables (set xs u b) = set-bytes r.variables u b xs (omega arith) xs-bytes in
        ap (original r) (sym (inputs-moved b)) ∙ sym (result-original r (set xs u b))
        ∙ h (set xs u b) xs moved xs-bytes
        (λ v n. get_or-set_other xs u v b 0 (λ e. n (omega arith, omega (arith, ek))))
        ∙ result-original r xs ∙ ap (original r) inputs-alone

  -- THEOREM: an input of which there is a share is idle under run exactly where it is idle for the original
  pub indifferent_original : 1 ≤ r.shares → Indifferent r i ↔ Unmoved r i
  unfolding Indifferent Unmoved
  indifferent_original l = (
    λ h a b la lb. stays (r.shares - 1) (omega arith) a la h b lb,
    λ h xs ys b c same. moved-not xs ys b c same h,
  )

-- THEOREM: as many inputs are idle under run as for the original
pub unmoved_counts : (r : Routine) → Formed r → 1 ≤ r.shares → (n : ℕ) → IdleInputs r n ↔ UnmovedInputs r n
unmoved_counts r F l n = (
  tally_map (λ i h. indifferent_original r F i h l),
  tally_map (λ i h. let e = indifferent_original r F i h l in (e.1, e.0)),
)
