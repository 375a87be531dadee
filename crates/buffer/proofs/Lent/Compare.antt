-- Comparing two lists of powers from their ends: what a loop over the bytes, last first, may rely on. Assumes nothing.
use mathlib.Core.Path.{◌≡◌, refl, sym, ap, ap₂, ◌∙◌}
use mathlib.Core.Logic.{◌≢◌}
use mathlib.Core.List.{List, [], ◌∷◌}
use Prim.Native.Nat.compare
use Prim.Native.Nat.{ℕ, zero, suc, ◌-◌, ◌≤◌, ◌<◌, compare}
use Prim.Native.Nat.{Ordering as Order}
use native.Mathlib.Omega.{arith}
use native.Mathlib.Nat.{le_of_suc-le-suc}
use lib.ListN.{length, get_or, drop}
use lib.Seq.{drop-cons}
use Rattle.std.proofs.lemmas.Cmp.{ranked}
use Rattle.std.specs.declared.cmp.Ordering.{Ordering}
use Rattle.std.specs.declared.cmp.Ordering.TheVariants.{Less, Equal, Greater}
use Rattle.std.specs.Ordering.{nat_cmp, MatchOrdering}
use Rattle.poly.specs.Poly.{or_else, order}
use Rattle.buffer.specs.Buffer.{answer}
use Rattle.poly.proofs.Laws.Order.{compare_same}

-- what std says of two numbers is what `compare` says
compare-ranked : (a b : ℕ) (o : Ordering) → MatchOrdering o (a < b) (a ≡ b) (b < a) → o ≡ answer (compare a b)
compare-ranked zero zero Less h = absurd (omega arith)
compare-ranked zero zero Equal h = sym (ap answer compare.zero-zero)
compare-ranked zero zero Greater h = absurd (omega arith)
compare-ranked zero (suc b) Less h = sym (ap answer (compare.zero-suc b))
compare-ranked zero (suc b) Equal h = absurd (omega arith)
compare-ranked zero (suc b) Greater h = absurd (omega arith)
compare-ranked (suc a) zero Less h = absurd (omega arith)
compare-ranked (suc a) zero Equal h = absurd (omega arith)
compare-ranked (suc a) zero Greater h = sym (ap answer (compare.suc-zero a))
compare-ranked (suc a) (suc b) Less h = compare-ranked a b Less (omega arith) ∙ sym (ap answer (compare.suc-suc a b))
compare-ranked (suc a) (suc b) Equal h = compare-ranked a b Equal (omega arith) ∙ sym (ap answer (compare.suc-suc a b))
compare-ranked (suc a) (suc b) Greater h =
    compare-ranked a b Greater (omega arith) ∙ sym (ap answer (compare.suc-suc a b))

-- numbers compare as std compares them
compare-nat : (a b : ℕ) → nat_cmp a b ≡ answer (compare a b)
compare-nat a b = compare-ranked a b (nat_cmp a b) (ranked a b (nat_cmp a b) refl)

-- an answer other than `eq` is changed by no second one
or_else-first : (o p : Order) → o ≢ Order.eq → or_else o p ≡ o
or_else-first Order.lt p n = refl
or_else-first Order.eq p n = absurd (n refl)
or_else-first Order.gt p n = refl

-- a difference further down decides
decided : (o : Order) → o ≢ Order.eq → (k : ℕ) (e f : List ℕ) → k ≤ length e → k ≤ length f
    → order (drop k e) (drop k f) ≡ o → order e f ≡ o
decided o d zero e f h l q = q
decided o d (suc k) [] f h l q = absurd (omega arith)
decided o d (suc k) (a ∷ e) [] h l q = absurd (omega arith)
decided o d (suc k) (a ∷ e) (b ∷ f) h l q =
    ap (λ (x : Order). or_else x (compare a b)) (decided o d k e f (le_of_suc-le-suc h) (le_of_suc-le-suc l) q)
    ∙ or_else-first o (compare a b) d

-- powers that differ, where those behind them do not, are the answer
pub differ_at : (e f : List ℕ) (k : ℕ) → 0 < k → k ≤ length e → length e ≡ length f
    → order (drop k e) (drop k f) ≡ Order.eq → get_or e (k - 1) 0 ≢ get_or f (k - 1) 0
    → nat_cmp (get_or e (k - 1) 0) (get_or f (k - 1) 0) ≡ answer (order e f)
differ_at e f zero p h l q n = absurd (omega arith)
differ_at e f (suc k) p h l q n =
    let s : suc k - 1 ≡ k = omega arith in
    let o : Order = compare (get_or e k 0) (get_or f k 0) in
    let d : get_or e k 0 ≢ get_or f k 0 =
    λ x. n (ap (λ (i : ℕ). get_or e i 0) s ∙ x ∙ sym (ap (λ (i : ℕ). get_or f i 0) s)) in
    ap (λ (i : ℕ). nat_cmp (get_or e i 0) (get_or f i 0)) s ∙ compare-nat (get_or e k 0) (get_or f k 0)
    ∙ sym (ap answer (decided o (λ x. d (compare_same (get_or e k 0) (get_or f k 0) x)) k e f
    (omega arith) (omega arith) (ap₂ order (drop-cons e k 0 h) (drop-cons f k 0 (omega arith)) ∙ ap (λ (x : Order). or_else x o) q)))
