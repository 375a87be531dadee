-- Each statement: the room that its operands ask for, and its value.
-- Assumes nothing.
use mathlib.Core.Path.{◌≡◌, sym, subst}
use Prim.Native.Nat.{ℕ, zero, suc, ◌+◌, ◌*◌, ◌≤◌, ◌<◌}
use native.Mathlib.Omega.{arith}
use native.Mathlib.Nat.{mul-le-mul_right, suc-mul, mul-suc, zero-mul}
use mathlib.Core.List.{List, []}
use mathlib.Core.Logic.{◌⊎◌, inl, inr, ⊎_elim}
use lib.ListN.{length, get_or}
use Rattle.field.specs.Field.{Modulus}
use Rattle.poly.specs.Size.{one_if, nonzeros}
use Rattle.values.specs.declared.source.Source.{Source}
use Rattle.values.specs.declared.source.Source.TheVariants.{Constant, Variables, Stored}
use Rattle.values.specs.declared.found.Found.{Found}
use Rattle.values.specs.declared.found.Found.TheVariants.{Copy, Sum, Product, Image}
use Rattle.values.specs.Shelf.{Laid}
use Rattle.values.specs.Source.{source_size, Fits}
use Rattle.values.specs.Load.{most_term_bytes, LayAsked, LoadAsked}
use Rattle.values.specs.Form.{PairAsked}
use Rattle.values.specs.Found.{found_value, found_size}
use Rattle.values.specs.Value.{FormAsked}
use Rattle.values.proofs.Laws.Sources.{one-most}

-- ---- room

-- an operand is small, or it stands among the values
data Held (top k : ℕ) : Type 0 where
  small : k ≤ most_term_bytes → Held top k
  stands : k ≤ top → Held top k

held : (w top : ℕ) (r : Source) → w ≤ most_term_bytes → Fits w top r → Held top (source_size r)
unfolding source_size
held w top (Constant c) h f = small (omega (arith, one-most c))
held w top (Variables i k) h f = small (omega arith)
held w top (Stored at k) h f = stands (omega arith)

-- two of them are few together, or no more than what stands and their product
abbrev Few : ℕ → ℕ → ℕ → Type 0
Few top p q = (p + q ≤ 64) ⊎ (p + q ≤ top + p * q)

left-stands : (top p q : ℕ) → p ≤ top → Held top q → Few top p q
left-stands top zero q h (small g) = inl (omega arith)
left-stands top zero q h (stands g) = inr (omega (arith, zero-mul q))
left-stands top (suc p) q h (small g) = inr (omega (arith, suc-mul p q))
left-stands top (suc p) q h (stands g) = inr (omega (arith, suc-mul p q))

right-stands : (top p q : ℕ) → p ≤ most_term_bytes → q ≤ top → Few top p q
right-stands top p zero h g = inl (omega arith)
right-stands top p (suc q) h g = inr (omega (arith, mul-suc p q))

few : (top p q : ℕ) → Held top p → Held top q → Few top p q
few top p q (small h) (small g) = inl (omega arith)
few top p q (small h) (stands g) = right-stands top p q h g
few top p q (stands h) (small g) = left-stands top p q h (small g)
few top p q (stands h) (stands g) = left-stands top p q h (stands g)

module _ {m : ℕ} {lists : List (List ℕ)} {constants : List ℕ} {left : List ℕ} {top : ℕ} {right : List ℕ} {w : ℕ}
  where
    module _ {o : Found} (Q : FormAsked m lists constants o left top right w) where
      abbrev raw : ℕ
      raw = found_size lists constants o

      -- what is no more than what stands and the raw size has room
      room-right : (k : ℕ) → k ≤ top + raw → k * w ≤ length right
      room-right k h = omega (arith, mul-le-mul_right w h, Q.room, Q.work.same)

      room-spare : (k : ℕ) → k ≤ 64 → k * w ≤ length right
      room-spare k h = omega (arith, mul-le-mul_right w h, Q.work.spare)

      room-held : (k : ℕ) → Held top k → k * w ≤ length right
      room-held k (small h) = room-spare k (omega arith)
      room-held k (stands h) = room-right k (omega arith)

      laying : (k : ℕ) → k ≤ raw → LayAsked left top k w
      laying k h =
          let e : top + k ≤ top + raw = omega arith in
          record { some = Q.work.some; most = Q.work.most; room = omega (arith, mul-le-mul_right w e, Q.room) }

      loading : (r : Source) (at : ℕ) → Fits w top r → (at + source_size r) * w ≤ length right
          → LoadAsked left r right at w
      loading r at f h =
          let e : top ≤ top + raw = omega arith in
          record {
            top = top;
            held = omega (arith, mul-le-mul_right w e, Q.room);
            fits = f;
            asked = record { some = Q.work.some; most = Q.work.most; room = h };
          }

      alone : (r : Source) → Fits w top r → LoadAsked left r right 0 w
      alone r f =
          let e : 0 + source_size r ≡ source_size r = omega arith in
          loading r 0 f (subst (λ (x : ℕ). x * w ≤ length right) (sym e)
          (room-held (source_size r) (held w top r Q.work.most f)))

      pair : (r t : Source) → Fits w top r → Fits w top t → (source_size r + source_size t) * w ≤ length right
          → PairAsked left r t right w
      pair r t f g h = record { first = alone r f; second = loading t (source_size r) g h }

    -- ---- what each arm asks and leaves; x is what the code has found

    module _ {x : Found} (A : FormAsked m lists constants x left top right w) where
      at : {o : Found} → x ≡ o → FormAsked m lists constants o left top right w
      at e = subst (λ (y : Found). FormAsked m lists constants y left top right w) e A

      -- room for a copy
      pub copy-asked : {r : Source} → x ≡ Copy r
          → LoadAsked left r right 0 w × LayAsked left top (source_size r) w
      unfolding found_size
      copy-asked {r} e = (alone (at e) r (at e).fits, laying (at e) (source_size r) (omega arith))

      -- room for both operands and their sum
      pub sum-asked : {r t : Source} → x ≡ Sum r t
          → PairAsked left r t right w × LayAsked left top (source_size r + source_size t) w
      unfolding found_size
      sum-asked {r} {t} e =
          let Q = at e in
          let k = source_size r + source_size t in
          (pair Q r t Q.fits.0 Q.fits.1 (room-right Q k (omega arith)), laying Q k (omega arith))

      -- room for both operands and their product
      pub product_asked : {r t : Source} → x ≡ Product r t
          → PairAsked left r t right w × LayAsked left top (source_size r * source_size t) w
      unfolding found_size
      product_asked {r} {t} e =
          let Q = at e in
          let k = source_size r + source_size t in
          let n = few top (source_size r) (source_size t) (held w top r Q.work.most Q.fits.0)
          (held w top t Q.work.most Q.fits.1) in (
            pair Q r t Q.fits.0 Q.fits.1 (⊎_elim (λ h. room-spare Q k h) (λ h. room-right Q k h) n),
            laying Q (source_size r * source_size t) (omega arith),
          )

      -- room for the operand and its image
      pub image-asked : {f : ℕ} {r : Source} → x ≡ Image f r
          → Modulus m × (f < 8) × LoadAsked left r right 0 w
          × LayAsked left top (one_if (get_or constants f 0) + nonzeros (get_or lists f []) * source_size r) w
      unfolding found_size
      image-asked {f} {r} e =
          let Q = at e in (
            Q.work.modulus,
            Q.fits.0,
            alone Q r Q.fits.1,
            laying Q (one_if (get_or constants f 0) + nonzeros (get_or lists f []) * source_size r) (omega arith),
          )

      -- the arm that is taken leaves the value of what was found
      pub formed-at : {o : Found} {left' : List ℕ} {k : ℕ} → x ≡ o
          → Laid w left left' top k (found_value m w lists constants left o)
          → Laid w left left' top k (found_value m w lists constants left x)
      formed-at {left' = left'} {k} e h =
          subst (λ (y : Found). Laid w left left' top k (found_value m w lists constants left y)) (sym e) h
