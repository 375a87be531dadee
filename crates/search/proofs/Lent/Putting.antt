-- A byte put in for variable i in one pass: the result is the normal form of the terms with the byte put
-- in. Assumes nothing.
use mathlib.Core.Path.{◌≡◌, refl, sym, ap, ap₂, ◌∙◌, subst}
use mathlib.Core.List.{List, [], ◌∷◌, ◌++◌, append-nil}
use Prim.Native.Nat.{Ordering}
use Prim.Native.Nat.{ℕ, zero, suc, ◌+◌, ◌*◌, ◌-◌, ◌≤◌, ◌<◌, zero-le}
use native.Mathlib.Omega.{arith}
use native.Mathlib.Nat.{suc-mul, zero-mul, zero-add, le_refl}
use native.Mathlib.Numerals.{add-one}
use lib.ListN.{length, get_or, set}
use Rattle.field.specs.Field.{Modulus}
use Rattle.field.specs.Laws.{Ops, gf}
use Rattle.field.proofs.Laws.Xor.{zero-⊕}
use Rattle.field.proofs.Laws.Field.{gf_laws}
use Rattle.poly.specs.Poly.{term, Poly, order}
use Rattle.poly.specs.First.{put_slot_raw, put_slot}
use Rattle.poly.specs.Canon.{ByteList, Powers, Above, Sorted, Canon}
use Rattle.poly.specs.Pass.{gather, pass}
use Rattle.buffer.specs.Buffer.{read_terms}
use Rattle.search.specs.Put.{Led, PutAsked, Put, carry, onward, StepAsked, Stepped}
use Rattle.poly.proofs.Laws.Order.{gt≢lt}
use Rattle.poly.proofs.Laws.Normal.{canon-raw}
use Rattle.poly.proofs.Laws.Put.{put_slot_raw_lem}
use Rattle.poly.proofs.Laws.Pass.{Rising, Rises, pass-normal}
use Rattle.buffer.proofs.Lent.Reads.{read-parts, read_same}
use Rattle.search.proofs.Lent.Groups.{order-led, decided_gt}
use Rattle.search.proofs.Lent.Passing.{both}

-- ---- the terms with the byte put in: bytes, and powers that never fall

-- n bytes are n
pub bytes-length : (n : ℕ) (e : List ℕ) → ByteList n e → length e ≡ n
bytes-length zero [] h = refl
bytes-length zero (a ∷ e) h = absurd h
bytes-length (suc n) [] h = absurd h
bytes-length (suc n) (a ∷ e) h = ap suc (bytes-length n e h.1)

module _ (F : Ops) (n i a : ℕ) (l : i < n) where
  -- n powers that are bytes, of which the first i are zero
  abbrev Fit : List ℕ → Type 0
  Fit f = Led i f × ByteList n f

  -- with the byte put in, powers that rose do not fall
  not_falling : (e f : List ℕ) → Fit e → Fit f → order e f ≡ Ordering.lt → order (set e i 0) (set f i 0) ≡ Ordering.gt
      → ⊥
  not_falling e f h k o g =
      let x : length e ≡ n = bytes-length n e h.1 in
      let y : length f ≡ n = bytes-length n f k.1 in
      gt≢lt (sym (decided_gt (suc i) e f (omega arith) (omega arith)
      (sym (order-led i e f (omega arith) (omega arith) h.0 k.0) ∙ g)) ∙ o)

  -- and so from each term on
  slot_rising : (e : List ℕ) (p : Poly) → Fit e → Above e p → Sorted p → Powers Fit p
      → Rising (set e i 0) (put_slot_raw F i a p)
  slot_rising e [] h b s k = tt
  slot_rising e (term d f ∷ p) h b s k = (not_falling e f h k.0 b, slot_rising f p k.0 s.0 s.1 k.1)

  -- and so in the whole list
  pub slot_rises : (p : Poly) → Sorted p → Powers Fit p → Rises (put_slot_raw F i a p)
  slot_rises [] s k = tt
  slot_rises (term d f ∷ p) s k = slot_rising f p k.0 s.0 s.1 k.1

-- nothing gathered before the first term
carry-none : (m : ℕ) (p : Poly) → carry (gf m) 0 p ≡ pass (gf m) p
carry-none m [] = refl
carry-none m (term d f ∷ p) = ap (λ (x : ℕ). gather (gf m) x f p) (zero-⊕ d)

-- the pass gives the normal form
slot_pass : (m n i a : ℕ) (p : Poly) → Modulus m → i < n → Canon n p → Powers (Led i) p
    → carry (gf m) 0 (put_slot_raw (gf m) i a p) ≡ put_slot (gf m) i a p
slot_pass m n i a p M l h k =
    let L = gf_laws M in
    carry-none m (put_slot_raw (gf m) i a p)
    ∙ pass-normal (gf m) L {n = n} (put_slot_raw (gf m) i a p) (put_slot_raw_lem (gf m) L i a p (canon-raw h))
    (slot_rises (gf m) n i a l p h.sorted (both (Led i) (ByteList n) p k h.powers))

-- ---- the loop

-- what holds of two lists holds of the second
powers-right : (P : List ℕ → Type 0) (p q : Poly) → Powers P (p ++ q) → Powers P q
powers-right P [] q h = h
powers-right P (term c e ∷ p) q h = powers-right P p q h.1

-- the terms below j are read
pub record InPut (m : ℕ) (b₀ : List ℕ) (k w i a : ℕ) (b : List ℕ) (r c j : ℕ) : Type 0 where
  pub asked : PutAsked m b₀ k w i
  pub most : j ≤ k
  pub written : r ≤ j
  pub size : length b ≡ length b₀
  pub value : onward m b k w i a j r c ≡ onward m b₀ k w i a 0 0 0
  pub ahead : (x : ℕ) → j * w ≤ x → get_or b x 0 ≡ get_or b₀ x 0
  pub kept : r ≡ 0 → b ≡ b₀

-- at first no term is read
pub put-start : (m : ℕ) (b : List ℕ) (k w i a : ℕ) → PutAsked m b k w i → InPut m b k w i a b 0 0 0
put-start m b k w i a h = record {
  asked = h;
  most = zero-le;
  written = le_refl 0;
  size = refl;
  value = refl;
  ahead = λ x l. refl;
  kept = λ _. refl;
}

module _ (m : ℕ) (b₀ : List ℕ) (k w i a : ℕ) (b : List ℕ) (r c j : ℕ) (h : InPut m b₀ k w i a b r c j) where
  -- a term has w bytes
  stride : suc (w - 1) ≡ w
  stride = omega (arith, h.asked.inside)

  -- what the next step asks
  pub put_asks : j < k → StepAsked b k w i j r
  put_asks l =
      let u : k ≡ j + (k - j) = omega arith in
      let v : 0 + j * suc (w - 1) ≡ j * w = ap (λ (x : ℕ). 0 + j * x) stride ∙ zero-add (j * w) in
      let y : (k - j) * suc (w - 1) ≡ (k - j) * w = ap (λ (x : ℕ). (k - j) * x) stride in
      record {
        inside = h.asked.inside;
        source = omega (arith, h.asked.source, h.size);
        next = l;
        written = h.written;
        led = subst (Powers (Led i))
            (ap (λ (x : ℕ). read_terms (w - 1) b₀ x (k - j)) v
            ∙ sym (read_same (w - 1) b b₀ (j * w) (k - j) h.size (λ x p q. h.ahead x p)))
            (powers-right (Led i) (read_terms (w - 1) b₀ 0 j) (read_terms (w - 1) b₀ (0 + j * suc (w - 1)) (k - j))
            (subst (Powers (Led i)) (ap (read_terms (w - 1) b₀ 0) u ∙ read-parts (w - 1) b₀ 0 j (k - j))
            h.asked.led));
      }

  -- one term more is read
  pub put-more : (b' : List ℕ) (r' c' : ℕ) → j < k → Stepped m b b' k w i a j r c r' c'
      → InPut m b₀ k w i a b' r' c' (j + 1)
  put-more b' r' c' l s =
      let v : suc j * w ≡ j * w + w = suc-mul j w in
      let g : InPut m b₀ k w i a b' r' c' (suc j) = record {
        asked = h.asked;
        most = l;
        written = s.most;
        size = s.size ∙ h.size;
        value = s.value ∙ h.value;
        ahead = λ x p. s.high x p ∙ h.ahead x (omega arith);
        kept = λ z. s.kept (omega (arith, s.least)) ∙ h.kept (omega (arith, s.least));
      } in
      subst (InPut m b₀ k w i a b' r' c') (sym (add-one j)) g

  -- at last the byte is put in
  pub put-done : k ≤ j → Put m b₀ b k w i a r
  put-done l =
      let F : Ops = gf m in
      let z : 0 ≡ k - j = omega arith in
      let u : 0 * w ≡ 0 = zero-mul w in
      let v : k - 0 ≡ k = omega arith in
      let e : j ≡ k = omega (arith, h.most) in
      record {
        held = record {
          size = h.size;
          terms =
              sym (append-nil (read_terms (w - 1) b 0 r))
              ∙ ap (λ (x : ℕ). read_terms (w - 1) b 0 r ++ carry F c
              (put_slot_raw F i a (read_terms (w - 1) b (j * w) x))) z
              ∙ h.value
              ∙ ap₂ (λ (x y : ℕ). carry F 0 (put_slot_raw F i a (read_terms (w - 1) b₀ x y))) u v
              ∙ slot_pass m (w - 1) i a (read_terms (w - 1) b₀ 0 k) h.asked.modulus
              (omega (arith, h.asked.inside)) h.asked.canon h.asked.led;
          high = λ x p. h.ahead x (subst (λ (y : ℕ). y * w ≤ x) (sym e) p);
        };
        most = omega (arith, h.written, h.most);
        kept = h.kept;
      }
