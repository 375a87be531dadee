-- The lent buffers afterwards: each keeps its length, and each byte is known. Stated over the length, so that no proof
-- counts to 65,280.
-- Assumes nothing.
use Rattle.std.proofs.Common.{◌≡◌, ℕ, zero, suc, ◌<◌, ◌≤◌, List, [], ◌∷◌, ◌++◌, length, get_or, drop, replicate, refl, arith, length-append, length-drop}
use lib.ListN.{length-replicate}
use Rattle.verdict.specs.Judge.{work_bytes, zeroed, fronted}
use Rattle.verdict.specs.Verdict.{Cleared, KeptBehind}

-- a buffer with zeros in front keeps its length
pub zeroed-length : (n : ℕ) (w : List ℕ) → n ≤ length w → length (zeroed n w) ≡ length w
unfolding zeroed
zeroed-length n w h =
    omega (arith, length-append (replicate n 0) (drop n w), length-replicate {A = ℕ} n 0, length-drop n w)

-- a list with bytes in front keeps its length
pub fronted-length : (bs l : List ℕ) → length bs ≤ length l → length (fronted bs l) ≡ length l
unfolding fronted
fronted-length bs l h = omega (arith, length-append bs (drop (length bs) l), length-drop (length bs) l)

-- a byte in front is zero
pub zeroed-front : (n : ℕ) (w : List ℕ) (i : ℕ) → i < n → get_or (zeroed n w) i 0 ≡ 0
unfolding zeroed
zeroed-front zero w i h = absurd (omega arith)
zeroed-front (suc n) w zero h = refl
zeroed-front (suc n) [] (suc i) h = front n i
  where
    front : (n i : ℕ) → ◌≡◌ {A = ℕ} (get_or (replicate n 0 ++ []) i 0) 0
    front zero i = refl
    front (suc n) zero = refl
    front (suc n) (suc i) = front n i
zeroed-front (suc n) (x ∷ w) (suc i) h = zeroed-front n w i (omega arith)

-- a byte behind is as it was
pub zeroed-behind : (n : ℕ) (w : List ℕ) (i : ℕ) → n ≤ length w → n ≤ i → get_or (zeroed n w) i 0 ≡ get_or w i 0
unfolding zeroed
zeroed-behind zero w i l h = refl
zeroed-behind (suc n) [] i l h = absurd (omega arith)
zeroed-behind (suc n) (x ∷ w) zero l h = absurd (omega arith)
zeroed-behind (suc n) (x ∷ w) (suc i) l h = zeroed-behind n w i (omega arith) (omega arith)

-- a byte behind the listed ones is as it was
pub fronted-behind : (bs l : List ℕ) (i : ℕ) → length bs ≤ length l → length bs ≤ i
    → get_or (fronted bs l) i 0 ≡ get_or l i 0
unfolding fronted
fronted-behind [] l i k h = refl
fronted-behind (b ∷ bs) [] i k h = absurd (omega arith)
fronted-behind (b ∷ bs) (x ∷ l) zero k h = absurd (omega arith)
fronted-behind (b ∷ bs) (x ∷ l) (suc i) k h = fronted-behind bs l i (omega arith) (omega arith)

-- THEOREM: a work buffer that is long enough is cleared
pub cleared : (w : List ℕ) → work_bytes ≤ length w → Cleared w (zeroed work_bytes w)
cleared w h = record {
  size = zeroed-length work_bytes w h;
  front = zeroed-front work_bytes w;
  behind = λ i l. zeroed-behind work_bytes w i h l;
}

-- THEOREM: a byte list keeps what is behind the listed bytes
pub kept-behind : (bs l : List ℕ) (n : ℕ) → length bs ≡ n → n ≤ length l → KeptBehind n l (fronted bs l)
kept-behind bs l n e h = record {
  size = fronted-length bs l (omega arith);
  behind = λ i k. fronted-behind bs l i (omega arith) (omega arith);
}
