-- A merge from its first step to its last: the sum is moved up, the steps are made, and what is left of the sum is
-- moved down. Assumes nothing.
use mathlib.Core.Path.{◌≡◌, refl, sym, ap, ap₂, ◌∙◌, subst}
use mathlib.Core.List.{List, ◌++◌}
use Prim.Native.Nat.{ℕ, suc, ◌+◌, ◌*◌, ◌-◌, ◌≤◌, ◌<◌}
use native.Mathlib.Omega.{arith}
use native.Mathlib.Nat.{le-add_right, mul-le-mul_right, add-mul, zero-add}
use lib.ListN.{length, get_or, get_or-eq_default}
use Rattle.field.specs.Laws.{gf}
use Rattle.poly.specs.Poly.{Poly, into}
use Rattle.poly.specs.Canon.{Coefs, Sorted, Nonzero}
use Rattle.buffer.specs.Buffer.{read_terms}
use Rattle.buffer.specs.Move.{MovedUp, MovedDown}
use Rattle.buffer.proofs.Lent.Reads.{read_same, read-shift, read-parts}
use Rattle.buffer.proofs.Lent.Strides.{row_count}
use Rattle.product.specs.Merge.{Merging, merged, SteppedAny, MergeAsked, MergedAny}

-- past its end a buffer holds what any other of its length does
pub beyond : (b b' : List ℕ) → length b' ≡ length b → (x : ℕ) → length b ≤ x → get_or b' x 0 ≡ get_or b x 0
beyond b b' e x l = get_or-eq_default b' 0 (omega arith) ∙ sym (get_or-eq_default b 0 l)

-- the terms to move are those before `at`, and they stand in the buffer
pub merge_room : (b : List ℕ) (n at r w : ℕ) → MergeAsked b n at r w
    → (n ≤ at) × (n * w + (at - n) * w ≡ at * w) × (at * w ≤ length b) × (at + r ≤ length b)
merge_room b n at r w h =
    let l : n ≤ at = omega (arith, h.room) in
    let e : n + (at - n) ≡ at = omega arith in (
      l,
      sym (add-mul n (at - n) w) ∙ ap (λ (x : ℕ). x * w) e,
      omega (arith, mul-le-mul_right w (le-add_right at r), h.fits),
      omega (arith, row_count (at + r) w h.some, h.fits),
    )

-- a merge under way: k terms are written, term i of the sum and term j of the piece are next; the buffer was b when the
-- sum had been moved up
pub record InMerge (b : List ℕ) (n at r w : ℕ) (b' : List ℕ) (k i j : ℕ) : Type 0 where
  pub size : length b' ≡ length b
  pub left : Merging b' w k i at j (at + r)
  pub same : (m : ℕ) → merged (gf m) b' w k i at j (at + r) ≡ merged (gf m) b w 0 (at - n) at at (at + r)

module _ (b₀ : List ℕ) (n at r w : ℕ) (b : List ℕ) (h : MergeAsked b₀ n at r w)
    (u : MovedUp b₀ b 0 (n * w) ((at - n) * w)) where
  -- the terms of the sum, moved up
  sum-up : read_terms (w - 1) b ((at - n) * w) (at - (at - n)) ≡ read_terms (w - 1) b₀ 0 n
  sum-up =
      let q = merge_room b₀ n at r w h in
      let e : suc (w - 1) ≡ w = omega (arith, h.some) in
      let en : n * suc (w - 1) ≡ n * w = ap (λ (x : ℕ). n * x) e in
      let z : at - (at - n) ≡ n = omega (arith, q.0) in
      let o : 0 + (at - n) * w ≡ (at - n) * w = zero-add ((at - n) * w) in
      ap (read_terms (w - 1) b ((at - n) * w)) z ∙ ap (λ (x : ℕ). read_terms (w - 1) b x n) (sym o)
      ∙ read-shift (w - 1) b₀ b 0 ((at - n) * w) n (omega arith) (omega (arith, u.size))
      (λ x a l. u.moved x a (omega arith))

  -- the terms of the piece, which stay
  piece_up : read_terms (w - 1) b (at * w) (at + r - at) ≡ read_terms (w - 1) b₀ (at * w) r
  piece_up =
      let q = merge_room b₀ n at r w h in
      let y : at + r - at ≡ r = omega arith in
      ap (read_terms (w - 1) b (at * w)) y
      ∙ read_same (w - 1) b b₀ (at * w) r u.size (λ x a l. u.high x (omega arith))

  -- at first nothing is written
  pub merge_start : InMerge b n at r w b 0 (at - n) at
  merge_start = record {
    size = refl;
    left = record {
      some = h.some;
      sum = omega arith;
      piece = omega arith;
      most = omega arith;
      room = omega (arith, h.room);
      fits = omega (arith, h.fits, u.size);
      ascends = subst Sorted (sym sum-up) h.ascends;
      sorted = subst Sorted (sym piece_up) h.sorted;
      nonzero = subst (Coefs Nonzero) (sym piece_up) h.nonzero;
    };
    same = λ m. refl;
  }

  -- what the whole is
  merge_whole : (m : ℕ) → merged (gf m) b w 0 (at - n) at at (at + r)
      ≡ into (gf m) (read_terms (w - 1) b₀ (at * w) r) (read_terms (w - 1) b₀ 0 n)
  merge_whole m = ap₂ (into (gf m)) piece_up sum-up

module _ (b : List ℕ) (n at r w : ℕ) (b' : List ℕ) (k i j : ℕ) (h : InMerge b n at r w b' k i j) where
  -- one step more
  pub merge_more : j < at + r → (b'' : List ℕ) (k' i' j' : ℕ) → SteppedAny b' b'' w at k i j k' i' j'
      → InMerge b n at r w b'' k' i' j'
  merge_more l b'' k' i' j' s = record {
    size = (s 0 (at + r) l h.left).size ∙ h.size;
    left = (s 0 (at + r) l h.left).left;
    same = λ m. (s m (at + r) l h.left).same ∙ h.same m;
  }

  -- the places of what is left of the sum
  pub merge_left : (k ≤ i) × (i ≤ at) × (k * w + (i - k) * w ≡ i * w) × (i * w ≤ at * w) × (at * w ≤ length b')
      × (at ≤ length b')
  merge_left =
      let g = h.left in
      let l : k ≤ i = omega (arith, g.room) in
      let e : k + (i - k) ≡ i = omega arith in
      let f : at * w ≤ length b' = omega (arith, mul-le-mul_right w (le-add_right at r), g.fits) in (
        l,
        g.sum,
        sym (add-mul k (i - k) w) ∙ ap (λ (x : ℕ). x * w) e,
        mul-le-mul_right w g.sum,
        f,
        omega (arith, row_count at w g.some),
      )

  -- no term of the piece is left: what is left of the sum is moved down
  pub merge_done : at + r ≤ j → (b'' b₀ : List ℕ) → MovedDown b' b'' (i * w) (at * w) ((i - k) * w)
      → MergeAsked b₀ n at r w → MovedUp b₀ b 0 (n * w) ((at - n) * w) → MergedAny b₀ b'' n at r w (k + (at - i))
  merge_done l b'' b₀ d a u m =
      let g = h.left in
      let q = merge_left in
      let e : suc (w - 1) ≡ w = omega (arith, g.some) in
      let ek : k * suc (w - 1) ≡ k * w = ap (λ (x : ℕ). k * x) e in
      let ei : (at - i) * suc (w - 1) ≡ (at - i) * w = ap (λ (x : ℕ). (at - i) * x) e in
      let ea : i + (at - i) ≡ at = omega (arith, g.sum) in
      let em : i * w + (at - i) * w ≡ at * w = sym (add-mul i (at - i) w) ∙ ap (λ (x : ℕ). x * w) ea in
      let z : 0 ≡ at + r - j = omega (arith, g.most) in
      let o : 0 + k * suc (w - 1) ≡ k * w = omega arith in
      record {
        size = d.size ∙ h.size ∙ u.size;
        terms =
            read-parts (w - 1) b'' 0 k (at - i)
            ∙ ap₂ (λ (x y : Poly). x ++ y)
            (read_same (w - 1) b'' b' 0 k d.size (λ x s t. d.low x (omega arith)))
            (ap (λ (x : ℕ). read_terms (w - 1) b'' x (at - i)) o
            ∙ sym (read-shift (w - 1) b'' b' (k * w) ((i - k) * w) (at - i) (omega (arith, d.size)) (omega arith)
            (λ x s t. sym (d.moved x (omega arith) (omega arith))))
            ∙ ap (λ (x : ℕ). read_terms (w - 1) b' x (at - i)) q.2)
            ∙ ap (λ (x : ℕ). read_terms (w - 1) b' 0 k ++ into (gf m) (read_terms (w - 1) b' (j * w) x)
            (read_terms (w - 1) b' (i * w) (at - i))) z
            ∙ h.same m ∙ merge_whole b₀ n at r w b a u m;
        high = beyond b₀ b'' (d.size ∙ h.size ∙ u.size);
      }
