-- Terms laid in a buffer: one list of bytes written, one polynomial behind another, and the bytes of a single term.
-- Assumes nothing.
use mathlib.Core.Path.{◌≡◌, refl, sym, ap, ap₂, ◌∙◌, subst}
use mathlib.Core.Logic.{◌≢◌}
use Prim.Native.Nat.{ℕ, zero, suc, ◌+◌, ◌*◌, ◌-◌, ◌≤◌, ◌<◌}
use native.Mathlib.Omega.{arith}
use native.Mathlib.Decide.{ℕ_discrete}
use native.Mathlib.Numerals.{add-one}
use native.Mathlib.Nat.{add-mul, zero-add, le_of_suc-le-suc, one-mul}
use mathlib.Core.List.{List, [], ◌∷◌, ◌++◌}
use lib.ListN.{length, get_or, take, drop, set, replicate, length-set, length-replicate, length-drop}
use lib.Seq.{get_or-set_same, get_or-set_other, get_or-take, get_or-drop, length-take-le}
use Rattle.poly.specs.Poly.{term, Poly, unit, units, variable, constant}
use Rattle.poly.specs.Size.{one_if}
use Rattle.buffer.specs.Buffer.{read_terms}
use Rattle.buffer.specs.Move.{Written}
use Rattle.buffer.proofs.Lent.Reads.{read_same, read-shift, read-parts, term-written}
use Rattle.values.specs.Shelf.{terms_at, Laid}
use Rattle.values.specs.Load.{most_term_bytes, LayAsked}

-- ---- bytes

row_of : (w : ℕ) → 0 < w → suc (w - 1) ≡ w
row_of w h = omega arith

-- the terms of a part are those of the whole
pub read_part_lem : (w : ℕ) (b : List ℕ) (from k : ℕ) → 0 < w → from + k * w ≤ length b
    → read_terms (w - 1) (take (k * w) (drop from b)) 0 k ≡ read_terms (w - 1) b from k
read_part_lem w b from k pos h =
    let e = ap (λ (x : ℕ). k * x) (row_of w pos) in
    let l : length (take (k * w) (drop from b)) ≡ k * w = length-take-le (k * w) (drop from b)
    (omega (arith, length-drop from b)) in
    sym (ap (λ (x : ℕ). read_terms (w - 1) b x k) (sym (zero-add from))
    ∙ read-shift (w - 1) (take (k * w) (drop from b)) b 0 from k (omega (arith, e, l)) (omega (arith, e))
    (λ i g q.
    let s : i + from ≡ from + i = omega arith in
    let u : i < k * w = omega (arith, e) in
    ap (λ (x : ℕ). get_or b x 0) s ∙ sym (get_or-take (k * w) (drop from b) i 0 u ∙ get_or-drop from b i 0)))

-- bytes written are terms laid
pub laid-written : (w : ℕ) (b b' : List ℕ) (at k : ℕ) (t : List ℕ) (p : Poly) → 0 < w → (at + k) * w ≤ length b
    → length t ≡ k * w
    → read_terms (w - 1) t 0 k ≡ p → Written b b' (at * w) t → Laid w b b' at k p
laid-written w b b' at k t p pos room l m h =
    let e = ap (λ (x : ℕ). k * x) (row_of w pos) in
    record {
      size = h.size;
      low = h.low;
      terms =
          ap (λ (x : ℕ). read_terms (w - 1) b' x k) (sym (zero-add (at * w)))
          ∙ read-shift (w - 1) t b' 0 (at * w) k (omega (arith, e)) (omega (arith, e, add-mul at k w, h.size))
          (λ i g q.
          let s : i + at * w ≡ at * w + i = omega arith in
          ap (λ (x : ℕ). get_or b' x 0) s ∙ h.here i (omega (arith, e)))
          ∙ m;
    }

-- ---- one polynomial behind another

-- terms laid behind terms that are laid
pub laid_append : (w : ℕ) (b b₁ b₂ : List ℕ) (at j k : ℕ) (p q : Poly) → 0 < w → Laid w b b₁ at j p
    → Laid w b₁ b₂ (at + j) k q
    → Laid w b b₂ at (j + k) (p ++ q)
laid_append w b b₁ b₂ at j k p q pos h g =
    let e : (at + j) * w ≡ at * w + j * w = add-mul at j w in
    let n = ap (λ (x : ℕ). j * x) (row_of w pos) in
    record {
      size = g.size ∙ h.size;
      low = λ i l. g.low i (omega arith) ∙ h.low i l;
      terms =
          read-parts (w - 1) b₂ (at * w) j k
          ∙ ap₂ (λ (x y : Poly). x ++ y)
          (read_same (w - 1) b₂ b₁ (at * w) j g.size (λ i l u. g.low i (omega (arith, n))) ∙ h.terms)
          (ap (λ (x : ℕ). read_terms (w - 1) b₂ (at * w + x) k) n ∙ ap (λ (x : ℕ). read_terms (w - 1) b₂ x k) (sym e)
          ∙ g.terms);
    }

-- ---- the bytes of a variable and of a constant, in a row of zeros

unit-same : (n i : ℕ) → i < n → get_or (unit n i) i 0 ≡ 1
unit-same zero i h = absurd (omega arith)
unit-same (suc n) zero h = refl
unit-same (suc n) (suc i) h = unit-same n i (le_of_suc-le-suc h)

zeros-at : (n j : ℕ) → get_or {A = ℕ} (replicate n 0) j 0 ≡ 0
zeros-at zero j = refl
zeros-at (suc n) zero = refl
zeros-at (suc n) (suc j) = zeros-at n j

unit-other : (n i j : ℕ) → j ≢ i → get_or (unit n i) j 0 ≡ 0
unit-other zero i j h = refl
unit-other (suc n) zero zero h = absurd (h refl)
unit-other (suc n) zero (suc j) h = zeros-at n j
unit-other (suc n) (suc i) zero h = refl
unit-other (suc n) (suc i) (suc j) h = unit-other n i j (λ e. h (ap suc e))

unit-length : (n i : ℕ) → length (unit n i) ≡ n
unit-length zero i = refl
unit-length (suc n) zero = ap suc (length-replicate {A = ℕ} n 0)
unit-length (suc n) (suc i) = ap suc (unit-length n i)

-- z is a row of zeros, at least w of them
module _ (w : ℕ) (z : List ℕ) (pos : 0 < w) (fits : w ≤ length z) (empty : (j : ℕ) → get_or z j 0 ≡ 0) where
  abbrev constant_row : ℕ → List ℕ
  constant_row c = set z 0 c

  abbrev variable_row : ℕ → List ℕ
  variable_row i = set (set z 0 1) (i + 1) 1

  constant-at : (c j : ℕ) → j < suc (w - 1) → get_or (take w (constant_row c)) j 0 ≡ get_or (c ∷ replicate (w - 1) 0) j 0
  constant-at c zero h = get_or-take w (constant_row c) 0 0 pos ∙ get_or-set_same z 0 c 0 (omega arith)
  constant-at c (suc j) h =
      get_or-take w (constant_row c) (suc j) 0 (omega arith) ∙ get_or-set_other z 0 (suc j) c 0 (λ e. absurd (omega arith))
      ∙ empty (suc j)
      ∙ sym (zeros-at (w - 1) j)

  -- a row of one coefficient and zeros is a constant's term
  pub constant-read : (c : ℕ) → read_terms (w - 1) (take w (constant_row c)) 0 1 ≡ term c (replicate (w - 1) 0) ∷ []
  constant-read c =
      let l : length (take w (constant_row c)) ≡ w = length-take-le w (constant_row c)
      (omega (arith, length-set z 0 c)) in
      ap {B = Poly} (λ t. t ∷ []) (term-written (w - 1) (take w (constant_row c)) 0 c (replicate (w - 1) 0)
      (length-replicate {A = ℕ} (w - 1) 0)
      (omega arith) (λ j h. ap (λ (x : ℕ). get_or (take w (constant_row c)) x 0) (zero-add j) ∙ constant-at c j h))

  variable-later : (i j : ℕ) → i < w - 1 → suc j < w → Dec (j ≡ i)
      → get_or (variable_row i) (suc j) 0 ≡ get_or (unit (w - 1) i) j 0
  variable-later i j h l (yes e) =
      let f : suc j ≡ i + 1 = omega arith in
      ap (λ (x : ℕ). get_or (variable_row i) x 0) f
      ∙ get_or-set_same (set z 0 1) (i + 1) 1 0 (omega (arith, length-set z 0 1))
      ∙ sym (ap (λ (x : ℕ). get_or (unit (w - 1) i) x 0) e ∙ unit-same (w - 1) i h)
  variable-later i j h l (no n) =
      get_or-set_other (set z 0 1) (i + 1) (suc j) 1 0 (λ e. n (omega arith))
      ∙ get_or-set_other z 0 (suc j) 1 0 (λ e. absurd (omega arith)) ∙ empty (suc j) ∙ sym (unit-other (w - 1) i j n)

  variable-at : (i j : ℕ) → i < w - 1 → j < suc (w - 1)
      → get_or (take w (variable_row i)) j 0 ≡ get_or (1 ∷ unit (w - 1) i) j 0
  variable-at i zero h l =
      get_or-take w (variable_row i) 0 0 pos ∙ get_or-set_other (set z 0 1) (i + 1) 0 1 0 (λ e. absurd (omega arith))
      ∙ get_or-set_same z 0 1 0 (omega arith)
  variable-at i (suc j) h l = get_or-take w (variable_row i) (suc j) 0 (omega arith)
      ∙ variable-later i j h (omega arith) (ℕ_discrete j i)

  -- a row with one power is a variable's term
  pub variable-read : (i : ℕ) → i < w - 1 → read_terms (w - 1) (take w (variable_row i)) 0 1 ≡ variable (w - 1) i
  variable-read i h =
      let l : length (take w (variable_row i)) ≡ w = length-take-le w (variable_row i)
      (omega (arith, length-set z 0 1, length-set (set z 0 1) (i + 1) 1)) in
      ap {B = Poly} (λ t. t ∷ []) (term-written (w - 1) (take w (variable_row i)) 0 1 (unit (w - 1) i)
      (unit-length (w - 1) i)
      (omega arith) (λ j k. ap (λ (x : ℕ). get_or (take w (variable_row i)) x 0) (zero-add j) ∙ variable-at i j h k))

-- ---- the ways out of `lay_variable`, `lay_constant` and `lay_stored`; a row is lent as take (w - 0)

blank : (j : ℕ) → get_or {A = ℕ} (replicate most_term_bytes 0) j 0 ≡ 0
blank j = zeros-at most_term_bytes j

module _ (w : ℕ) (b b' : List ℕ) (at : ℕ) where
  -- the written row is one term
  lay-row_law : (row : List ℕ) (p : Poly) → LayAsked b at 1 w → w ≤ length row
      → read_terms (w - 1) (take w row) 0 1 ≡ p → Written b b' (at * w) (take (w - 0) row) → Laid w b b' at 1 p
  lay-row_law row p a f r k =
      let e : w - 0 ≡ w = omega arith in
      laid-written w b b' at 1 (take w row) p a.some a.room (length-take-le w row f ∙ sym (one-mul w)) r
      (subst (λ (x : ℕ). Written b b' (at * w) (take x row)) e k)

  -- the written row is the variable
  pub lay-variable_law : (i : ℕ) → (i + 1 < w) × LayAsked b at 1 w
      → Written b b' (at * w) (take (w - 0) (set (set (replicate most_term_bytes 0) 0 1) (i + 1) 1))
      → Laid w b b' at 1 (variable (w - 1) i)
  lay-variable_law i (h, a) k =
      let z = replicate {A = ℕ} most_term_bytes 0 in
      let f : w ≤ length z = omega (arith, a.most, length-replicate {A = ℕ} most_term_bytes 0) in
      lay-row_law (set (set z 0 1) (i + 1) 1) (variable (w - 1) i) a
      (omega (arith, length-set z 0 1, length-set (set z 0 1) (i + 1) 1))
      (variable-read w z a.some f blank i (omega arith)) k

  -- the written row is the constant
  pub lay-constant_law : (c : ℕ) → (c ≡ 0 → ⊥) → LayAsked b at (one_if c) w
      → Written b b' (at * w) (take (w - 0) (set (replicate most_term_bytes 0) 0 c))
      → Laid w b b' at (one_if c) (constant (w - 1) c)
  lay-constant_law zero n a k = absurd (n refl)
  lay-constant_law (suc c) n a k =
      let z = replicate {A = ℕ} most_term_bytes 0 in
      let f : w ≤ length z = omega (arith, a.most, length-replicate {A = ℕ} most_term_bytes 0) in
      lay-row_law (set z 0 (suc c)) (constant (w - 1) (suc c)) a (omega (arith, length-set z 0 (suc c)))
      (constant-read w z a.some f blank (suc c)) k

  -- the copied bytes are the terms that stood there
  pub lay-stored_law : (left : List ℕ) (from k : ℕ) → ((from + k) * w ≤ length left) × LayAsked b at k w
      → Written b b' (at * w) (take (from * w + k * w - from * w) (drop (from * w) left))
      → Laid w b b' at k (terms_at w left from k)
  lay-stored_law left from k (h, a) g =
      let e : from * w + k * w - from * w ≡ k * w = omega arith in
      let u : from * w + k * w ≤ length left = omega (arith, add-mul from k w) in
      let l : length (take (k * w) (drop (from * w) left))
      ≡ k * w = length-take-le (k * w) (drop (from * w) left) (omega (arith, length-drop (from * w) left)) in
      laid-written w b b' at k (take (k * w) (drop (from * w) left)) (terms_at w left from k) a.some a.room l
      (read_part_lem w left (from * w) k a.some u) (subst
      (λ (x : ℕ). Written b b' (at * w) (take x (drop (from * w) left))) e g)

-- ---- the loop over variables

units-more : (n i j : ℕ) → units n i (j + 1) ≡ units n i j ++ variable n (i + j)
units-more n i j = ap (units n i) (add-one j) ∙ go i j
  where
    go : (i j : ℕ) → units n i (suc j) ≡ units n i j ++ variable n (i + j)
    go i zero = ap (λ (x : ℕ). term 1 (unit n x) ∷ []) (let z : i ≡ i + 0 = omega arith in z)
    go i (suc j) =
        let e : suc i + j ≡ i + suc j = omega arith in
        ap {B = Poly} (λ p. term 1 (unit n i) ∷ p) (go (suc i) j ∙ ap (λ (x : ℕ). units n (suc i) j ++ variable n x) e)

-- one variable more
pub variables-more : (w : ℕ) (b b₁ b₂ : List ℕ) (at i j : ℕ) → 0 < w → Laid w b b₁ at j (units (w - 1) i j)
    → Laid w b₁ b₂ (at + j) 1 (variable (w - 1) (i + j)) → Laid w b b₂ at (j + 1) (units (w - 1) i (j + 1))
variables-more w b b₁ b₂ at i j pos h g =
    subst (Laid w b b₂ at (j + 1)) (sym (units-more (w - 1) i j))
    (laid_append w b b₁ b₂ at j 1 (units (w - 1) i j) (variable (w - 1) (i + j)) pos h g)

-- the rows before a place lie in the buffer
pub rows-below : (b : List ℕ) (at k w : ℕ) → LayAsked b at k w → at * w + k * w ≤ length b
rows-below b at k w a = omega (arith, add-mul at k w, a.room)
