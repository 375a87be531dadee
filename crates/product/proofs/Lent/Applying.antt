-- The steps of the application of a map: the constant, a scaled row, the squares in place. Assumes nothing.
use mathlib.Core.Path.{◌≡◌, refl, sym, ap, ap₂, ◌∙◌}
use mathlib.Core.List.{List, [], ◌∷◌, ◌++◌}
use Prim.Native.Nat.{ℕ, zero, suc, ◌+◌, ◌*◌, ◌-◌, ◌≤◌, ◌<◌}
use native.Mathlib.Omega.{arith}
use native.Mathlib.Nat.{one-mul}
use native.Mathlib.Numerals.{add-one}
use lib.ListN.{length, get_or, take, drop, set, replicate, length-set, length-replicate}
use lib.Seq.{get_or-set_same, get_or-set_other}
use Rattle.field.specs.Field.{times}
use Rattle.field.specs.Laws.{gf}
use Rattle.poly.specs.Poly.{Term, term, Poly, add_pows, square}
use Rattle.poly.specs.Size.{one_if}
use Rattle.buffer.specs.Buffer.{term_at, read_terms}
use Rattle.buffer.specs.Move.{Written}
use Rattle.product.specs.Product.{term_times}
use Rattle.product.specs.Apply.{Constant}
use Rattle.buffer.proofs.Lent.Reads.{part_same, read_same, read_more, term-written}
use Rattle.buffer.proofs.Lent.Strides.{row_end, next_row}
use Rattle.buffer.proofs.Lent.Adding.{row-coef, row-powers}
use Rattle.product.proofs.Lent.Parts.{part, part_length, returned, returned-size, returned-low, returned_in}
use Rattle.product.proofs.Lent.Parts.{returned-high, returned-written}

-- ---- the constant

-- the coefficient is written, and the powers behind it are zero: the constant stands there
pub constant-done : (b : List ℕ) (c w : ℕ) (x : List ℕ) → 0 < w → 0 < c → one_if c * w ≤ length b
    → x ≡ replicate (length (part (set b 0 c) 1 w)) 0 → Constant b (returned (set b 0 c) 1 w x) c w 1
constant-done b zero w x p z f o = absurd (omega arith)
constant-done b (suc c) w x p z f o =
    let b' : List ℕ = set b 0 (suc c) in
    let s : length b' ≡ length b = length-set b 0 (suc c) in
    let l : 1 ≤ w = omega arith in
    let u : w ≤ length b' = omega (arith, one-mul w) in
    let e : x ≡ replicate (w - 1) 0 = o ∙ ap (λ (n : ℕ). replicate n 0) (part_length b' 1 w l u) in
    let v : length x ≡ w - 1 = ap length e ∙ length-replicate (w - 1) 0 in
    record {
      size = returned-size b' 1 w l u x v ∙ s;
      terms = ap {B = Poly} (λ (t : Term). t ∷ [])
          (term-written (w - 1) (returned b' 1 w x) 0 (suc c) (replicate (w - 1) 0) (length-replicate (w - 1) 0)
          (omega (arith, returned-size b' 1 w l u x v)) (at l u v e));
      high = λ i k. returned-high b' 1 w l u x v i (omega (arith, one-mul w))
          ∙ get_or-set_other b 0 i (suc c) 0 (omega (arith, one-mul w));
    }
  where
    at : 1 ≤ w → w ≤ length (set b 0 (suc c)) → length x ≡ w - 1 → x ≡ replicate (w - 1) 0
        → (i : ℕ) → i < suc (w - 1)
        → get_or (returned (set b 0 (suc c)) 1 w x) (0 + i) 0 ≡ get_or (suc c ∷ replicate (w - 1) 0) i 0
    at l u v e zero k =
        returned-low (set b 0 (suc c)) 1 w l u x v 0 (omega arith)
        ∙ get_or-set_same b 0 (suc c) 0 (omega (arith, length-set b 0 (suc c)))
    at l u v e (suc i) k =
        let s : 0 + suc i ≡ i + 1 = omega arith in
        ap (λ (y : ℕ). get_or (returned (set b 0 (suc c)) 1 w x) y 0) s
        ∙ returned_in (set b 0 (suc c)) 1 w l u x v i (omega arith) ∙ ap (λ (y : List ℕ). get_or y i 0) e

-- ---- squares in place

-- the square of a list and a term behind it
square-last : (m c : ℕ) (e : List ℕ) (p : Poly)
    → square (gf m) (p ++ (term c e ∷ [])) ≡ square (gf m) p ++ (term (times m c c) (add_pows e e) ∷ [])
square-last m c e [] = refl
square-last m c e (term d f ∷ p) =
    ap {B = Poly} (λ (x : Poly). term (times m d d) (add_pows f f) ∷ x) (square-last m c e p)

-- the terms of src before j are squared, and what stands behind them is as it was
pub record InSquares (m : ℕ) (src₀ : List ℕ) (k w : ℕ) (src t : List ℕ) (j : ℕ) : Type 0 where
  pub some : 0 < w
  pub source : k * w ≤ length src₀
  pub most : j ≤ k
  pub spare : length t ≡ w
  pub size : length src ≡ length src₀
  pub done : read_terms (w - 1) src 0 j ≡ square (gf m) (read_terms (w - 1) src₀ 0 j)
  pub high : (i : ℕ) → j * w ≤ i → get_or src i 0 ≡ get_or src₀ i 0

module _ {m : ℕ} {src₀ : List ℕ} {k w : ℕ} {src t : List ℕ} {j : ℕ} (h : InSquares m src₀ k w src t j) (l : j < k) where
  -- the place of the next term
  abbrev at : ℕ
  at = j * w

  -- it stands in the buffer
  pub squares_inside : at + w ≤ length src
  squares_inside = omega (arith, row_end j k w l, h.source, h.size)

  -- the bytes of the next term
  abbrev pub one : List ℕ
  one = part src at (at + w)

  -- the term there, in the buffer as it was
  abbrev c₀ : ℕ
  c₀ = get_or src₀ at 0

  -- its powers
  abbrev e₀ : List ℕ
  e₀ = take (w - 1) (drop (suc at) src₀)

  -- the next term's coefficient is as it was
  one-first : get_or one 0 0 ≡ c₀
  one-first = row-coef src at w h.some squares_inside ∙ h.high at (omega arith)

  -- and so are its powers
  one-powers : drop 1 one ≡ e₀
  one-powers =
      row-powers src at w h.some squares_inside
      ∙ part_same src src₀ (suc at) (w - 1) h.size (λ i p q. h.high i (omega arith))

  module _ {t' : List ℕ} (made : t' ≡ term_times m one one) (same : length t' ≡ length t) where
    -- the buffer with the square in the term's place
    abbrev now : List ℕ
    now = returned src at (at + w) t'

    -- the square has as many bytes
    wide : length t' ≡ at + w - at
    wide = omega (arith, same, h.spare)

    -- it is written there
    written : Written src now at t'
    written = returned-written src at (at + w) (omega arith) squares_inside t' wide

    -- its bytes
    bytes : t' ≡ times m c₀ c₀ ∷ add_pows e₀ e₀
    bytes = made ∙ ap₂ {C = List ℕ} (λ (x : ℕ) (y : List ℕ). times m x x ∷ add_pows y y) one-first one-powers

    -- it has as many powers
    powers-length : length (add_pows e₀ e₀) ≡ w - 1
    powers-length = omega (arith, ap length bytes, wide, h.some)

    -- the square stands in the term's place
    squared-here : term_at (w - 1) now at ≡ term (times m c₀ c₀) (add_pows e₀ e₀)
    squared-here =
        term-written (w - 1) now at (times m c₀ c₀) (add_pows e₀ e₀) powers-length
        (omega (arith, squares_inside, written.size, h.some))
        (λ i q. written.here i (omega (arith, wide, h.some)) ∙ ap (λ (x : List ℕ). get_or x i 0) bytes)

    -- the terms before the next but one are squared
    done_more : read_terms (w - 1) now 0 (j + 1) ≡ square (gf m) (read_terms (w - 1) src₀ 0 (j + 1))
    done_more =
        let s : suc (w - 1) ≡ w = omega (arith, h.some) in
        let u : 0 + j * suc (w - 1) ≡ at = omega (arith, ap (λ (x : ℕ). j * x) s) in
        ap (read_terms (w - 1) now 0) (add-one j) ∙ read_more (w - 1) now 0 j
        ∙ ap₂ (λ (x y : Poly). x ++ y)
        (read_same (w - 1) now src 0 j written.size (λ i p q. written.low i (omega arith)) ∙ h.done)
        (ap {B = Poly} (λ (x : ℕ). term_at (w - 1) now x ∷ []) u ∙ ap {B = Poly} (λ (x : Term). x ∷ []) squared-here)
        ∙ sym (ap (square (gf m)) (ap (read_terms (w - 1) src₀ 0) (add-one j) ∙ read_more (w - 1) src₀ 0 j
        ∙ ap {B = Poly} (λ (x : ℕ). read_terms (w - 1) src₀ 0 j ++ (term_at (w - 1) src₀ x ∷ [])) u)
        ∙ square-last m c₀ e₀ (read_terms (w - 1) src₀ 0 j))

    -- one term more is squared
    pub squares_more : InSquares m src₀ k w now t' (j + 1)
    squares_more = record {
      some = h.some;
      source = h.source;
      most = omega arith;
      spare = same ∙ h.spare;
      size = written.size ∙ h.size;
      done = done_more;
      high = λ i p.
          written.high i (omega (arith, next_row j w, wide)) ∙ h.high i (omega (arith, next_row j w));
    }
