-- A byte put in for a variable, in place: what a pass over the terms leaves. Assumes nothing.
use Rattle.std.specs.Prelude.{ℕ, suc, ◌*◌, ◌-◌, ◌≤◌, ◌<◌, ◌≡◌, List, [], ◌∷◌, ◌++◌, Bool, false, length, get_or, drop}
use Rattle.std.specs.Str.{bytes_eq}
use Rattle.field.specs.Field.{Modulus, times, power}
use Rattle.field.specs.Maps.{list_of}
use Rattle.field.specs.Laws.{Ops, gf}
use Rattle.poly.specs.Poly.{term, Poly}
use Rattle.poly.specs.First.{put_slot_raw, put_slot}
use Rattle.poly.specs.Canon.{Powers, Canon}
use Rattle.poly.specs.Pass.{gather}
use Rattle.buffer.specs.Buffer.{read_terms}
use Rattle.buffer.specs.Insert.{Holds}

-- the first i powers are zero
abbrev pub Led : ℕ → List ℕ → Type 0
Led i e = (x : ℕ) → x < i → get_or e x 0 ≡ 0

-- b has k reduced terms of w bytes, whose powers before variable i are zero
pub record PutAsked (m : ℕ) (b : List ℕ) (k w i : ℕ) : Type 0 where
  pub modulus : Modulus m
  pub inside : suc i < w
  pub source : k * w ≤ length b
  pub canon : Canon (w - 1) (read_terms (w - 1) b 0 k)
  pub led : Powers (Led i) (read_terms (w - 1) b 0 k)

-- r terms are left of the k when a is put in for variable i; where none is, the buffer is as it was
pub record Put (m : ℕ) (b b' : List ℕ) (k w i a r : ℕ) : Type 0 where
  pub held : Holds b b' w (k * w) r (put_slot (gf m) i a (read_terms (w - 1) b 0 k))
  pub most : r ≤ k
  pub kept : r ≡ 0 → b' ≡ b

-- ---- one term of a pass

-- the second term of the list has the powers of the first, those up to variable i left out
abbrev pub same_next : ℕ → Poly → Bool
same_next i [] = false
same_next i (t ∷ []) = false
same_next i (term c e ∷ term d f ∷ q) = bytes_eq (drop (suc i) e) (drop (suc i) f)

-- what is still to be written, with the sum c gathered for the group of the next term
abbrev pub carry : Ops → ℕ → Poly → Poly
carry F c [] = []
carry F c (term d f ∷ q) = gather F (F.add c d) f q

-- the terms written, and what the sum c and the terms from j on still give
abbrev pub onward : ℕ → List ℕ → ℕ → ℕ → ℕ → ℕ → ℕ → ℕ → ℕ → Poly
onward m b k w i a j r c =
    read_terms (w - 1) b 0 r ++ carry (gf m) c (put_slot_raw (gf m) i a (read_terms (w - 1) b (j * w) (k - j)))

-- r terms are written, and term j of the k is read next
pub record StepAsked (b : List ℕ) (k w i j r : ℕ) : Type 0 where
  pub inside : suc i < w
  pub source : k * w ≤ length b
  pub next : j < k
  pub written : r ≤ j
  pub led : Powers (Led i) (read_terms (w - 1) b (j * w) (k - j))

-- term j is read: c became c', r terms became r', and the terms behind it are as they were
pub record Stepped (m : ℕ) (b b' : List ℕ) (k w i a j r c r' c' : ℕ) : Type 0 where
  pub size : length b' ≡ length b
  pub most : r' ≤ suc j
  pub least : r ≤ r'
  pub value : onward m b' k w i a (suc j) r' c' ≡ onward m b k w i a j r c
  pub high : (x : ℕ) → suc j * w ≤ x → get_or b' x 0 ≡ get_or b x 0
  pub kept : r' ≡ r → b' ≡ b

-- the same for every byte whose powers the table holds
abbrev pub SteppedBy : ℕ → List ℕ → List ℕ → List ℕ → ℕ → ℕ → ℕ → ℕ → ℕ → ℕ → ℕ → ℕ → Type 0
SteppedBy m table b b' k w i j r c r' c' =
    (a : ℕ) → table ≡ list_of 256 (power (times m) a) → Stepped m b b' k w i a j r c r' c'
