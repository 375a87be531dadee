-- Lists: a function under map, and the parting of a list into lots and what is behind them.
-- Assumes nothing.
use Rattle.std.proofs.Common.{◌≡◌, ℕ, zero, suc, ◌-◌, ◌*◌, ◌<◌, ◌≤◌, List, [], ◌∷◌, ◌++◌, map, length, get_or, take, drop, replicate, refl, ap, ◌∙◌, ap₂, append_assoc, arith, length-append, length-drop, take-append-drop, length-take, take_at, drop_at}
use mathlib.Core.List.{map-append}
use Rattle.verdict.specs.Lists.{tabulate, lots, behind, poured}
use Rattle.rules.specs.Formed.{Each}
use Rattle.rules.proofs.Laws.Letting.{each_append}

-- ---- a function applied to each element

module _ {X Y : Type 0} (h : X → Y) where
  map-take : (k : ℕ) (xs : List X) → map h (take k xs) ≡ take k (map h xs)
  map-take zero xs = refl
  map-take (suc k) [] = refl
  map-take (suc k) (x ∷ xs) = ap {B = List Y} (λ zs. h x ∷ zs) (map-take k xs)

  map-drop : (k : ℕ) (xs : List X) → map h (drop k xs) ≡ drop k (map h xs)
  map-drop zero xs = refl
  map-drop (suc k) [] = refl
  map-drop (suc k) (x ∷ xs) = map-drop k xs

  -- map of lots
  pub map-lots : (k m : ℕ) (xs : List X) → map (map h) (lots k m xs) ≡ lots k m (map h xs)
  map-lots k zero xs = refl
  map-lots k (suc m) xs =
      ap₂ {C = List (List Y)} ◌∷◌ (map-take k xs) (map-lots k m (drop k xs) ∙ ap (lots k m) (map-drop k xs))

  -- map of what is behind them
  pub map-behind : (k m : ℕ) (xs : List X) → map h (behind k m xs) ≡ behind k m (map h xs)
  map-behind k zero xs = refl
  map-behind k (suc m) xs = map-behind k m (drop k xs) ∙ ap (behind k m) (map-drop k xs)

  -- map of lots poured out
  pub map-poured : (ss : List (List X)) → map h (poured ss) ≡ poured (map (map h) ss)
  map-poured [] = refl
  map-poured (s ∷ ss) = map-append h s (poured ss) ∙ ap {B = List Y} (λ zs. map h s ++ zs) (map-poured ss)

  -- map of a table
  pub map-tabulate : (n : ℕ) (f : ℕ → X) → map h (tabulate n f) ≡ tabulate n (λ i. h (f i))
  map-tabulate zero f = refl
  map-tabulate (suc n) f = ap {B = List Y} (λ zs. h (f 0) ∷ zs) (map-tabulate n (λ i. f (suc i)))

-- ---- lots

module _ {X : Type 0} where
  -- the lots and what is behind them are the whole list
  pub lots-behind : (k m : ℕ) (xs : List X) → poured (lots k m xs) ++ behind k m xs ≡ xs
  lots-behind k zero xs = refl
  lots-behind k (suc m) xs =
      append_assoc (take k xs) (poured (lots k m (drop k xs))) (behind k m (drop k xs))
      ∙ ap (λ (ys : List X). take k xs ++ ys) (lots-behind k m (drop k xs))
      ∙ take-append-drop k xs

  -- m lists of k elements each
  abbrev pub Square : ℕ → ℕ → List (List X) → Type 0
  Square k zero [] = Unit {0}
  Square k zero (s ∷ ss) = ⊥
  Square k (suc m) [] = ⊥
  Square k (suc m) (s ∷ ss) = (length s ≡ k) × Square k m ss

  -- lots poured out and parted again, and what stood behind them
  pub parts-poured : (k m : ℕ) (ss : List (List X)) (rs : List X) → Square k m ss
      → (lots k m (poured ss ++ rs) ≡ ss) × (behind k m (poured ss ++ rs) ≡ rs)
  parts-poured k zero [] rs q = (refl, refl)
  parts-poured k zero (s ∷ ss) rs q = absurd q
  parts-poured k (suc m) [] rs q = absurd q
  parts-poured k (suc m) (s ∷ ss) rs q =
      let front : poured (s ∷ ss) ++ rs ≡ s ++ (poured ss ++ rs) = append_assoc s (poured ss) rs in
      let back : drop k (s ++ (poured ss ++ rs)) ≡ poured ss ++ rs = drop_at s (poured ss ++ rs) k q.0 in
      let rest = parts-poured k m ss rs q.1 in (
        ap (lots k (suc m)) front
            ∙ ap₂ {C = List (List X)} ◌∷◌ (take_at s (poured ss ++ rs) k q.0) (ap (lots k m) back ∙ rest.0),
        ap (behind k (suc m)) front ∙ ap (behind k m) back ∙ rest.1,
      )

  -- ---- what each element has

  -- the element at a place has it, where the default has it
  pub each_at : (P : X → Type 0) (xs : List X) (d : X) → Each P xs → P d → (i : ℕ) → P (get_or xs i d)
  each_at P [] d h k zero = k
  each_at P [] d h k (suc i) = k
  each_at P (x ∷ xs) d h k zero = h.0
  each_at P (x ∷ xs) d h k (suc i) = each_at P xs d h.1 k i

  -- each of equal elements
  pub each-replicate : (P : X → Type 0) (n : ℕ) (x : X) → P x → Each P (replicate n x)
  each-replicate P zero x h = tt
  each-replicate P (suc n) x h = (h, each-replicate P n x h)

  each_take : (P : X → Type 0) (k : ℕ) (xs : List X) → Each P xs → Each P (take k xs)
  each_take P zero xs h = tt
  each_take P (suc k) [] h = tt
  each_take P (suc k) (x ∷ xs) h = (h.0, each_take P k xs h.1)

  -- each that is left of a list
  pub each-drop : (P : X → Type 0) (k : ℕ) (xs : List X) → Each P xs → Each P (drop k xs)
  each-drop P zero xs h = h
  each-drop P (suc k) [] h = tt
  each-drop P (suc k) (x ∷ xs) h = each-drop P k xs h.1

  -- each of the lots of a list
  pub each-lots : (P : X → Type 0) (k m : ℕ) (xs : List X) → Each P xs → Each (Each P) (lots k m xs)
  each-lots P k zero xs h = tt
  each-lots P k (suc m) xs h = (each_take P k xs h, each-lots P k m (drop k xs) (each-drop P k xs h))

  -- each behind the lots
  pub each-behind : (P : X → Type 0) (k m : ℕ) (xs : List X) → Each P xs → Each P (behind k m xs)
  each-behind P k zero xs h = h
  each-behind P k (suc m) xs h = each-behind P k m (drop k xs) (each-drop P k xs h)

  -- each of lots poured out
  pub each-poured : (P : X → Type 0) (ss : List (List X)) → Each (Each P) ss → Each P (poured ss)
  each-poured P [] h = tt
  each-poured P (s ∷ ss) h = each_append P s (poured ss) h.0 (each-poured P ss h.1)

  -- each of a table
  pub each-tabulate : (P : X → Type 0) (n : ℕ) (f : ℕ → X) → ((i : ℕ) → i < n → P (f i)) → Each P (tabulate n f)
  each-tabulate P zero f h = tt
  each-tabulate P (suc n) f h = (h 0 (omega arith), each-tabulate P n (λ i. f (suc i)) (λ i l. h (suc i) (omega arith)))

-- each under a function
pub each_map : {X Y : Type 0} (P : X → Type 0) (Q : Y → Type 0) (f : X → Y) → ((x : X) → P x → Q (f x)) → (xs : List X)
    → Each P xs → Each Q (map f xs)
each_map P Q f g [] h = tt
each_map P Q f g (x ∷ xs) h = (g x h.0, each_map P Q f g xs h.1)

-- ---- lengths

module _ {X : Type 0} where
  -- m lots of k elements
  pub length-poured : (k m : ℕ) (ss : List (List X)) → Square k m ss → length (poured ss) ≡ m * k
  length-poured k zero [] q = omega arith
  length-poured k zero (s ∷ ss) q = absurd q
  length-poured k (suc m) [] q = absurd q
  length-poured k (suc m) (s ∷ ss) q = omega (arith, length-append s (poured ss), length-poured k m ss q.1, q.0)

  -- lots of a list that is long enough have k elements each
  pub square-lots : (k m : ℕ) (xs : List X) → m * k ≤ length xs → Square k m (lots k m xs)
  square-lots k zero xs h = tt
  square-lots k (suc m) xs h =
      (omega (arith, length-take k xs), square-lots k m (drop k xs) (omega (arith, length-drop k xs)))

  -- there are m of them
  pub length-lots : (k m : ℕ) (ss : List (List X)) → Square k m ss → length ss ≡ m
  length-lots k zero [] q = refl
  length-lots k zero (s ∷ ss) q = absurd q
  length-lots k (suc m) [] q = absurd q
  length-lots k (suc m) (s ∷ ss) q = ap suc (length-lots k m ss q.1)

  -- what is left behind them
  pub length-behind : (k m : ℕ) (xs : List X) → m * k ≤ length xs → length (behind k m xs) ≡ length xs - m * k
  length-behind k m xs h =
      omega (
        arith,
        ap length (lots-behind k m xs),
        length-append (poured (lots k m xs)) (behind k m xs),
        length-poured k m (lots k m xs) (square-lots k m xs h),
      )

  -- a table of n values
  pub length-tabulate : (n : ℕ) (f : ℕ → X) → length (tabulate n f) ≡ n
  length-tabulate zero f = refl
  length-tabulate (suc n) f = ap suc (length-tabulate n (λ i. f (suc i)))
