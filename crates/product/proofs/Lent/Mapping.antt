-- The application of a map, coefficient by coefficient: what is still to be added to the terms gives the whole
-- map. Assumes nothing.
use mathlib.Core.Path.{◌≡◌, refl, sym, ap, ap₂, ◌∙◌, subst}
use mathlib.Core.List.{List, [], ◌∷◌, ◌++◌}
use Prim.Native.Nat.{ℕ, zero, suc, ◌+◌, ◌*◌, ◌-◌, ◌≤◌, ◌<◌}
use native.Mathlib.Omega.{arith}
use native.Mathlib.Numerals.{add-one}
use native.Mathlib.Nat.{add-mul, le-add_right, mul-le-mul_right}
use lib.ListN.{length, get_or, drop}
use lib.Seq.{drop-cons, drop-length}
use Rattle.field.specs.Laws.{Ops, gf}
use Rattle.field.proofs.Laws.Field.{gf_laws}
use Rattle.poly.specs.Poly.{Poly, constant, into, normal, scale, square, linear_raw, map_poly}
use Rattle.poly.specs.Canon.{Canon, Raw}
use Rattle.poly.specs.Size.{one_if, nonzeros}
use Rattle.buffer.specs.Buffer.{read_terms}
use Rattle.poly.specs.Poly.{unless_zero}
use Rattle.product.specs.Apply.{Constant, Squared, ScaledAdded, ApplyAsked, Applied}
use Rattle.poly.proofs.Laws.Normal.{normal-canon}
use Rattle.poly.proofs.Laws.Reduced.{canon-constant}
use Rattle.buffer.proofs.Lent.Reads.{read_length}
use Rattle.buffer.proofs.Lent.Adding.{holds-count}
use Rattle.poly.proofs.Laws.Map.{square-raw, unless-into, into-canon, unless-raw, map-step, map_first}

-- ---- the loop over the coefficients

-- the coefficients below j are done: b₀ held the constant, src₀ is squared j times
pub record InApply (m c : ℕ) (ls b₀ src₀ : List ℕ) (k : ℕ) (t₀ b src t : List ℕ) (n j : ℕ) : Type 0 where
  pub asked : ApplyAsked m c ls b₀ src₀ k t₀
  pub eight : length ls ≡ 8
  pub most : j ≤ 8
  pub spare : length t ≡ length t₀
  pub source : length src ≡ length src₀
  pub above : (i : ℕ) → k * length t₀ ≤ i → get_or src i 0 ≡ get_or src₀ i 0
  pub size : length b ≡ length b₀
  pub high : (i : ℕ) → (one_if c + nonzeros ls * k) * length t₀ ≤ i → get_or b i 0 ≡ get_or b₀ i 0
  pub room : n + nonzeros (drop j ls) * k ≤ one_if c + nonzeros ls * k
  pub terms : Raw (length t₀ - 1) (read_terms (length t₀ - 1) src 0 k)
  pub canon : Canon (length t₀ - 1) (read_terms (length t₀ - 1) b 0 n)
  pub left : normal (gf m) (linear_raw (gf m) (drop j ls) (read_terms (length t₀ - 1) src 0 k) ++ read_terms
      (length t₀ - 1) b 0 n)
      ≡ map_poly (gf m) (length t₀ - 1) c ls (read_terms (length t₀ - 1) src₀ 0 k)

module _ (m c : ℕ) (ls : List ℕ) (src₀ : List ℕ) (k : ℕ) (t₀ : List ℕ) where
  -- the field
  abbrev F : Ops
  F = gf m

  -- the bytes of a term
  abbrev w : ℕ
  w = length t₀

  -- the end of the room for the image
  abbrev top : ℕ
  top = (one_if c + nonzeros ls * k) * w

  -- at first the constant stands there
  pub apply-start : (b b₀ : List ℕ) (n : ℕ) → length ls ≡ 8 → c < 256 → ApplyAsked m c ls b src₀ k t₀
      → Constant b b₀ c w n
      → InApply m c ls b₀ src₀ k t₀ b₀ src₀ t₀ n 0
  apply-start b b₀ n e h a o = record {
    asked = record {
      modulus = a.modulus;
      some = a.some;
      source = a.source;
      terms = a.terms;
      room =
          omega (arith, a.room, o.size);
    };
    eight = e;
    most = omega arith;
    spare = refl;
    source = refl;
    above = λ i l. refl;
    size = refl;
    high = λ i l. refl;
    room = omega (arith, holds-count o, constant-length c);
    terms = a.terms;
    canon = subst (Canon (w - 1)) (sym o.terms) (canon-constant (w - 1) c h);
    left = ap (λ (d : Poly). normal F (linear_raw F ls (read_terms (w - 1) src₀ 0 k) ++ d)) o.terms
        ∙ map_first F (gf_laws a.modulus) (w - 1) c ls (read_terms (w - 1) src₀ 0 k) h a.terms;
  }
    where
      constant-length : (x : ℕ) → length (constant (w - 1) x) ≡ one_if x
      constant-length zero = refl
      constant-length (suc x) = refl

  module _ (b₀ b src t : List ℕ) (n j : ℕ) (h : InApply m c ls b₀ src₀ k t₀ b src t n j) where
    -- at last the image does
    pub apply-done : (b₁ : List ℕ) (r : ℕ) → 8 ≤ j → Constant b₁ b₀ c w r → Applied m c ls b₁ b src₀ src k w n
    apply-done b₁ r l o =
        let z : drop j ls ≡ [] = ap (λ (x : ℕ). drop x ls) eight ∙ drop-length ls in
        record {
          held = record {
            size = h.size ∙ o.size;
            terms = sym (normal-canon F (read_terms (w - 1) b 0 n) h.canon.sorted h.canon.coefs)
                ∙ sym (ap (λ (x : List ℕ). normal F (linear_raw F x (read_terms (w - 1) src 0 k) ++ read_terms (w - 1) b
                0 n)) z) ∙ h.left;
            high = λ i g. h.high i g ∙ o.high i (omega (
              arith,
              mul-le-mul_right w (le-add_right (one_if c) (nonzeros ls * k)),
            ));
          };
          source = h.source;
          above = h.above;
        }
      where
        eight : j ≡ length ls
        eight = omega (arith, h.most, h.eight)

    module _ (l : j < 8) where
      -- the coefficient at hand
      abbrev pub now_l : ℕ
      now_l = get_or ls j 0

      -- the coefficients from j on: this one, and those behind it
      split : drop j ls ≡ now_l ∷ drop (suc j) ls
      split = drop-cons ls j 0 (omega (arith, h.eight))

      -- what is inserted now, and what is left after it
      room_split : n + one_if now_l * k + nonzeros (drop (suc j) ls) * k ≤ one_if c + nonzeros ls * k
      room_split =
          omega (
            arith,
            h.room,
            ap (λ (x : List ℕ). nonzeros x * k) split,
            add-mul (one_if now_l) (nonzeros (drop (suc j) ls)) k,
          )

      -- what is inserted now has room
      within : (n + one_if now_l * k) * w ≤ top
      within = mul-le-mul_right w (omega (arith, room_split))

      -- the row is inserted, and the terms are squared
      module _ (b' src' : List ℕ) (n' : ℕ) (S : ScaledAdded m b b' n now_l src k w n') (Q : Squared m src src' k w)
        where
          abbrev P : Poly
          P = read_terms (w - 1) src 0 k

          abbrev D : Poly
          D = read_terms (w - 1) b 0 n

          -- there is room for the rows behind it
          more_room : n' + nonzeros (drop (j + 1) ls) * k ≤ one_if c + nonzeros ls * k
          more_room =
              let u : drop (j + 1) ls ≡ drop (suc j) ls = ap (λ (x : ℕ). drop x ls) (add-one j) in
              omega (
                arith,
                room_split,
                ap (λ (x : List ℕ). nonzeros x * k) u,
                holds-count S,
                unless-into F now_l P D,
                ap (λ (x : ℕ). one_if now_l * x) (read_length (w - 1) src 0 k),
                read_length (w - 1) b 0 n,
              )

          -- the terms are reduced
          more-canon : Canon (w - 1) (read_terms (w - 1) b' 0 n')
          more-canon =
              let L = gf_laws h.asked.modulus in
              subst (Canon (w - 1)) (sym S.terms)
              (into-canon F L (unless_zero now_l (scale F now_l [] P)) D (unless-raw F L now_l P h.terms) h.canon)

          -- what the coefficients behind it still add gives the whole map
          more_left : normal F
              (linear_raw F (drop (j + 1) ls) (read_terms (w - 1) src' 0 k) ++ read_terms (w - 1) b' 0 n')
              ≡ map_poly F (w - 1) c ls (read_terms (w - 1) src₀ 0 k)
          more_left =
              ap₂ (λ (x y : Poly). normal F (linear_raw F (drop (j + 1) ls) x ++ y)) Q.terms S.terms
              ∙ ap (λ (x : ℕ).
              normal F (linear_raw F (drop x ls) (square F P) ++ into F (unless_zero now_l (scale F now_l [] P)) D))
              (add-one j)
              ∙ map-step F (gf_laws h.asked.modulus) now_l (drop (suc j) ls) P D h.terms h.canon
              ∙ sym (ap (λ (x : List ℕ). normal F (linear_raw F x P ++ D)) split) ∙ h.left

      -- one coefficient more is done, and the terms are squared once more
      pub apply-more : (b' src' t' t'' : List ℕ) (n' : ℕ) → length t' ≡ length t → length t'' ≡ length t'
          → ScaledAdded m b b' n now_l src k (length t) n' → Squared m src src' k (length t')
          → InApply m c ls b₀ src₀ k t₀ b' src' t'' n' (j + 1)
      apply-more b' src' t' t'' n' e e' s q =
          let S : ScaledAdded m b b' n now_l src k w n' =
          subst (λ (x : ℕ). ScaledAdded m b b' n now_l src k x n') h.spare s in
          let Q : Squared m src src' k w = subst (Squared m src src' k) (e ∙ h.spare) q in
          record {
            asked = h.asked;
            eight = h.eight;
            most = omega arith;
            spare = e' ∙ e ∙ h.spare;
            source = Q.size ∙ h.source;
            above = λ i g. Q.high i g ∙ h.above i g;
            size = S.size ∙ h.size;
            high = λ i g. S.high i (omega (arith, within)) ∙ h.high i g;
            room = more_room b' src' n' S Q;
            terms = subst (Raw (w - 1)) (sym Q.terms)
                (square-raw F (gf_laws h.asked.modulus) (read_terms (w - 1) src 0 k) h.terms);
            canon = more-canon b' src' n' S Q;
            left = more_left b' src' n' S Q;
          }
