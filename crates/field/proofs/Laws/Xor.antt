-- The laws of ⊕, on all numbers.
-- Assumes nothing.
use mathlib.Core.Path.{◌≡◌, refl, sym, ap, ap₂, ◌∙◌}
use Prim.Native.Nat.{ℕ, zero, suc, ◌+◌, ◌*◌, ◌/◌, ◌%◌, ◌^◌, ◌<◌}
use native.Mathlib.Nat.{mod-lt, le_of_suc-le-suc, not-suc-le-zero, zero-lt-suc}
use lib.Arith.{bin_ind}
use lib.Bits.{bit_xor, differ, xor_step, xor_comm, xor_self, xor_zero_l, xor_zero_r, xor_lt, xor_shr, xor_mod}
use lib.Bits.{xor_shifted}
use Rattle.field.specs.Xor.{◌⊕◌}

-- what holds of 0 and of 1 holds of a bit
pub bit_cases : (P : ℕ → Type 0) → P 0 → P 1 → (x : ℕ) → x < 2 → P x
bit_cases P p q zero h = p
bit_cases P p q (suc zero) h = q
bit_cases P p q (suc (suc x)) h = absurd (not-suc-le-zero (le_of_suc-le-suc (le_of_suc-le-suc h)))

-- a remainder by 2 is a bit
pub bit : (a : ℕ) → a % 2 < 2
bit a = mod-lt a (zero-lt-suc 1)

differ-bits : (x y : ℕ) → x < 2 → y < 2 → bit_xor x y ≡ differ x y
differ-bits x y hx hy =
    bit_cases (λ x. bit_xor x y ≡ differ x y) refl (bit_cases (λ y. bit_xor 1 y ≡ differ 1 y) refl refl y hy) x hx

differ-assoc : (x y z : ℕ) → x < 2 → y < 2 → z < 2 → differ (differ x y) z ≡ differ x (differ y z)
differ-assoc x y z hx hy hz =
    bit_cases (λ x. differ (differ x y) z ≡ differ x (differ y z)) refl
    (bit_cases (λ y. differ (differ 1 y) z ≡ differ 1 (differ y z)) refl
    (bit_cases (λ z. z ≡ differ 1 (differ 1 z)) refl refl z hz) y hy) x hx

odd : (a b : ℕ) → bit_xor a b % 2 ≡ differ (a % 2) (b % 2)
odd a b = xor_mod a b 1 ∙ differ-bits (a % 2) (b % 2) (bit a) (bit b)

digit : {q q' d d' : ℕ} → q ≡ q' → d ≡ d' → q * 2 + d ≡ q' * 2 + d'
digit p r = ap₂ (λ (x y : ℕ). x * 2 + y) p r

xor_assoc : (a b c : ℕ) → bit_xor (bit_xor a b) c ≡ bit_xor a (bit_xor b c)
xor_assoc a =
    bin_ind (λ (n : ℕ). (b c : ℕ) → bit_xor (bit_xor n b) c ≡ bit_xor n (bit_xor b c)) (λ b c. refl)
    (λ n ih b c.
    xor_step (bit_xor n b) c
    ∙ digit (ap (λ (x : ℕ). bit_xor x (c / 2)) (xor_shr n b 1) ∙ ih (b / 2) (c / 2)
    ∙ ap (bit_xor (n / 2)) (sym (xor_shr b c 1)))
    (ap (λ (x : ℕ). differ x (c % 2)) (odd n b) ∙ differ-assoc (n % 2) (b % 2) (c % 2) (bit n) (bit b) (bit c)
    ∙ ap (differ (n % 2)) (sym (odd b c)))
    ∙ sym (xor_step n (bit_xor b c)))
    a

-- ---- the laws

-- the order does not matter
pub ⊕-comm : (a b : ℕ) → a ⊕ b ≡ b ⊕ a
unfolding ◌⊕◌
⊕-comm = xor_comm

-- nor do the brackets
pub ⊕-assoc : (a b c : ℕ) → a ⊕ b ⊕ c ≡ a ⊕ (b ⊕ c)
unfolding ◌⊕◌
⊕-assoc = xor_assoc

-- parts change places
pub ⊕-left-comm : (a b c : ℕ) → a ⊕ (b ⊕ c) ≡ b ⊕ (a ⊕ c)
⊕-left-comm a b c = sym (⊕-assoc a b c) ∙ ap (λ x. x ⊕ c) (⊕-comm a b) ∙ ⊕-assoc b a c

-- a byte added to itself is 0
pub ⊕_self : (a : ℕ) → a ⊕ a ≡ 0
unfolding ◌⊕◌
⊕_self = xor_self

-- adding to 0
pub zero-⊕ : (a : ℕ) → 0 ⊕ a ≡ a
unfolding ◌⊕◌
zero-⊕ = xor_zero_l

-- adding 0
pub ⊕-zero : (a : ℕ) → a ⊕ 0 ≡ a
unfolding ◌⊕◌
⊕-zero = xor_zero_r

-- a part added twice is gone
pub ⊕_cancel : (a b : ℕ) → a ⊕ (a ⊕ b) ≡ b
⊕_cancel a b = sym (⊕-assoc a a b) ∙ ap (λ x. x ⊕ b) (⊕_self a) ∙ zero-⊕ b

-- a sum that is 0 has equal parts
pub ⊕-zero_eq : (a b : ℕ) → a ⊕ b ≡ 0 → a ≡ b
⊕-zero_eq a b e = sym (⊕-zero a) ∙ ap (λ x. a ⊕ x) (sym e) ∙ ⊕_cancel a b

-- sums of sums
pub ⊕_swap : (a b c d : ℕ) → (a ⊕ b) ⊕ (c ⊕ d) ≡ (a ⊕ c) ⊕ (b ⊕ d)
⊕_swap a b c d = simp (⊕-assoc, ⊕-left-comm)

-- `simp ⊕-sort` sorts the parts of a sum and drops pairs
pub ruleset ⊕-sort = (⊕-assoc, ⊕-left-comm, ⊕-comm, ⊕_self, ⊕_cancel, zero-⊕, ⊕-zero)

-- ---- with the binary digits

-- sums stay below a power of 2
pub ⊕_lt : (k : ℕ) {a b : ℕ} → a < 2 ^ k → b < 2 ^ k → a ⊕ b < 2 ^ k
unfolding ◌⊕◌
⊕_lt k {a} {b} = xor_lt k a b

-- the digits from k on of a sum
pub ⊕_shr : (k a b : ℕ) → (a ⊕ b) / 2 ^ k ≡ a / 2 ^ k ⊕ b / 2 ^ k
unfolding ◌⊕◌
⊕_shr k a b = xor_shr a b k

-- the k low digits of a sum
pub ⊕_mod : (k a b : ℕ) → (a ⊕ b) % 2 ^ k ≡ a % 2 ^ k ⊕ b % 2 ^ k
unfolding ◌⊕◌
⊕_mod k a b = xor_mod a b k

-- a high part and k low digits
pub ⊕-split : (a k b : ℕ) → b < 2 ^ k → a * 2 ^ k ⊕ b ≡ a * 2 ^ k + b
unfolding ◌⊕◌
⊕-split = xor_shifted
