-- What the two blocks begin with: an input of the origin block is the sum of its shares' variables, which are in order
-- already, and each share is a variable.
-- Assumes nothing.
use Rattle.std.proofs.Common.{◌≡◌, ℕ, zero, suc, ◌+◌, ◌-◌, ◌*◌, ◌<◌, ◌≤◌, List, ◌∷◌, map, take, drop, replicate, sym, refl, ap, ◌∙◌, ap₂, le_of_suc-le-suc, add-zero, suc-mul, suc-add, zero-add, zero-mul, arith, drop-drop}
use Prim.Native.Nat.{compare, Ordering}
use Rattle.field.specs.Laws.{Ops, gf}
use Rattle.poly.specs.Poly.{term, Poly, unit, units, variable, order, or_else, place, insert, normal, add_poly}
use Rattle.poly.proofs.Laws.Order.{order_self}
use Rattle.verdict.specs.Lists.{tabulate, lots}
use Rattle.verdict.specs.Meaning.{joined}
use Rattle.verdict.specs.Instances.{polynomials}

-- ---- tables

module _ {X : Type 0} where
  -- equal at each place below n
  pub tabulate-same : (n : ℕ) (f g : ℕ → X) → ((i : ℕ) → i < n → f i ≡ g i) → tabulate n f ≡ tabulate n g
  tabulate-same zero f g h = refl
  tabulate-same (suc n) f g h =
      ap₂ {C = List X} ◌∷◌ (h 0 (omega arith))
      (tabulate-same n (λ i. f (suc i)) (λ i. g (suc i)) (λ i l. h (suc i) (omega arith)))

  -- a table from place j on
  pub tabulate-drop : (f : ℕ → X) (v j : ℕ) → j ≤ v → drop j (tabulate v f) ≡ tabulate (v - j) (λ i. f (j + i))
  tabulate-drop f v zero h =
      let e : v ≡ v - 0 = omega arith in
      ap (λ (k : ℕ). tabulate k f) e ∙ tabulate-same (v - 0) f (λ i. f (0 + i)) (λ i l. ap f (sym (zero-add i)))
  tabulate-drop f zero (suc j) h = absurd (omega arith)
  tabulate-drop f (suc v) (suc j) h =
      let e : v - j ≡ suc v - suc j = omega arith in
      tabulate-drop (λ i. f (suc i)) v j (le_of_suc-le-suc h)
      ∙ tabulate-same (v - j) (λ i. f (suc (j + i))) (λ i. f (suc j + i)) (λ i l. ap f (sym (suc-add j i)))
      ∙ ap (λ (k : ℕ). tabulate k (λ i. f (suc j + i))) e

  -- the first k of a table
  pub tabulate-take : (f : ℕ → X) (v k : ℕ) → k ≤ v → take k (tabulate v f) ≡ tabulate k f
  tabulate-take f v zero h = refl
  tabulate-take f zero (suc k) h = absurd (omega arith)
  tabulate-take f (suc v) (suc k) h =
      ap {B = List X} (λ l. f 0 ∷ l) (tabulate-take (λ i. f (suc i)) v k (le_of_suc-le-suc h))

-- ---- the variables in order

zeros-first : (n : ℕ) → order (replicate (suc n) 0) (unit (suc n) 0) ≡ Ordering.lt
zeros-first n = ap (λ (o : Ordering). or_else o Ordering.lt) (order_self (replicate n 0))

-- each variable comes before the next
unit-order : (n j : ℕ) → suc j < n → order (unit n j) (unit n (suc j)) ≡ Ordering.lt
unit-order zero j h = absurd (omega arith)
unit-order (suc zero) zero h = absurd (omega arith)
unit-order (suc (suc n)) zero h = ap (λ (o : Ordering). or_else o (compare 1 0)) (zeros-first n)
unit-order (suc n) (suc j) h = ap (λ (o : Ordering). or_else o Ordering.eq) (unit-order n j (le_of_suc-le-suc h))

module _ (F : Ops) (n : ℕ) where
  insert-unit : (j k : ℕ) → suc j + k ≤ n
      → insert F 1 (unit n j) (units n (suc j) k) ≡ term 1 (unit n j) ∷ units n (suc j) k
  insert-unit j zero h = refl
  insert-unit j (suc k) h =
      ap (λ (o : Ordering). place F o 1 (unit n j) 1 (unit n (suc j)) (units n (suc (suc j)) k)
      (insert F 1 (unit n j) (units n (suc (suc j)) k)))
      (unit-order n j (omega arith))

  -- they are in order already
  normal-units : (j k : ℕ) → j + k ≤ n → normal F (units n j k) ≡ units n j k
  normal-units j zero h = refl
  normal-units j (suc k) h =
      ap (insert F 1 (unit n j)) (normal-units (suc j) k (omega arith)) ∙ insert-unit j k (omega arith)

-- ---- the sum of variables

-- the XOR of k variables from variable j on is their list
pub joined-units : (m n j k : ℕ) → j + k ≤ n
    → joined (polynomials m n) (tabulate k (λ i. variable n (j + i))) ≡ units n j k
unfolding joined polynomials
joined-units m n j zero h = refl
joined-units m n j (suc k) h =
    let e : joined (polynomials m n) (tabulate k (λ i. variable n (j + suc i))) ≡ units n (suc j) k =
    ap (joined (polynomials m n)) (tabulate-same k (λ i. variable n (j + suc i)) (λ i. variable n (suc j + i))
    (λ i l. ap (variable n) (let z : j + suc i ≡ suc j + i = omega arith in z)))
    ∙ joined-units m n (suc j) k (omega arith) in
    ap₂ (λ (x : ℕ) (p : Poly). add_poly (gf m) (variable n x) p) (add-zero j) e
    ∙ ap (insert (gf m) 1 (unit n j)) (normal-units (gf m) n (suc j) k (omega arith))
    ∙ insert-unit (gf m) n j k (omega arith)

-- LAW: c inputs of k shares each, from variable j on
pub inputs-from : (m n v k : ℕ) → v ≤ n → (c j : ℕ) → j + c * k ≤ v
    → map (joined (polynomials m n)) (lots k c (drop j (tabulate v (variable n))))
    ≡ tabulate c (λ i. units n (j + i * k) k)
inputs-from m n v k h zero j l = refl
inputs-from m n v k h (suc c) j l =
    let s : suc c * k ≡ c * k + k = suc-mul c k in
    let z : j ≡ j + 0 * k = omega (arith, zero-mul k) in
    ap₂ {C = List Poly} ◌∷◌
    (ap (λ (xs : List Poly). joined (polynomials m n) (take k xs)) (tabulate-drop (variable n) v j (omega arith))
    ∙ ap (joined (polynomials m n)) (tabulate-take (λ i. variable n (j + i)) (v - j) k (omega arith))
    ∙ joined-units m n j k (omega arith)
    ∙ ap (λ (x : ℕ). units n x k) z)
    (ap (λ (xs : List Poly). map (joined (polynomials m n)) (lots k c xs)) (drop-drop k j (tabulate v (variable n)))
    ∙ inputs-from m n v k h c (j + k) (omega arith)
    ∙ tabulate-same c (λ i. units n (j + k + i * k) k) (λ i. units n (j + suc i * k) k)
    (λ i q. ap (λ (x : ℕ). units n x k) (let e : j + k + i * k ≡ j + suc i * k = omega (arith, suc-mul i k) in e)))
