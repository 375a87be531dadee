-- How many bytes the word and the fields of a line have, and what its pieces weigh. Assumes nothing.
use Prim.Native.Nat.{ℕ, zero, suc, ◌+◌, ◌*◌, ◌≤◌, ◌<◌}
use native.Mathlib.Omega.{arith}
use mathlib.Core.Path.{◌≡◌, refl, ap, subst}
use mathlib.Core.Bool.{true, ◌&&◌}
use mathlib.Core.List.{List, [], ◌∷◌}
use Rattle.std.specs.Prelude.{Option, Some as some}
use lib.Dec.{ltb, eqb}
use lib.ListN.{length, drop, get_or, drop_of_length-le}
use lib.Seq.{drop-cons}
use borrow.Author.Tests.{eqb-true}
use Rattle.tokens.specs.declared.word.Word.{Word}
use Rattle.tokens.specs.declared.word.Word.TheVariants.{Shares, Map, Input, Origin, Set, Xor, Mul, App, Let, Rand}
use Rattle.tokens.specs.declared.word.Word.TheVariants.{Result, Masked, Output, Unknown}
use Rattle.tokens.specs.Ascii.{ascii, within}
use Rattle.tokens.specs.Byte.{Each}
use Rattle.tokens.specs.Token.{◌>>=◌, Name, Term, hex_digit, read_name, read_plain, read_hex, read_count, read_term}
use Rattle.tokens.specs.Word.{words, word_of}
use Rattle.tokens.proofs.Laws.Flags.{and-true}
use Rattle.tokens.proofs.Laws.Some.{some_same, provided-some, bind_some}
use Rattle.tokens.proofs.Laws.Joined.{weight}
use Rattle.tokens.proofs.Laws.Word.{spelt-each}
use Rattle.tokens.proofs.Laws.Written.{Named, name-written, plain-written}
use Rattle.tokens.proofs.Laws.Terms.{Termed, term-written}
use Rattle.grammar.specs.Record.{each, field, fields}
use Rattle.grammar.proofs.Laws.Written.{Mapped}

-- ---- words

-- the bytes of a word
abbrev pub Spells : Word → List ℕ → Type 0
Spells Shares p = length p ≡ 6
Spells Map p = length p ≡ 3
Spells Input p = length p ≡ 5
Spells Origin p = length p ≡ 6
Spells Set p = length p ≡ 3
Spells Xor p = length p ≡ 3
Spells Mul p = length p ≡ 3
Spells App p = length p ≡ 3
Spells Let p = length p ≡ 3
Spells Rand p = length p ≡ 4
Spells Result p = length p ≡ 6
Spells Masked p = length p ≡ 6
Spells Output p = length p ≡ 6
Spells Unknown p = Unit {0}

-- the word that the bytes spell has as many
pub word_spells : (p : List ℕ) → Spells (word_of p) p
unfolding word_of words ascii
word_spells p =
    spelt-each Unknown p Spells tt words
    (refl, (refl, (refl, (refl, (refl, (refl, (refl, (refl, (refl, (refl, (refl, (refl, (refl, tt)))))))))))))

-- ---- fields

-- a name's field
pub name-size : (p : List ℕ) (n : Name) → read_name p ≡ some n → Named n × (length p ≤ 14)
name-size p n e = let w = name-written p n e in (w.1, omega (arith, w.1.size, ap length w.0))

-- the field of a name without a dot part
pub plain_size : (p : List ℕ) (n : Name) → read_plain p ≡ some n → Mapped n × (length p ≤ 14)
plain_size p n e =
    let w = plain-written p n e in
    (record { named = w.1; plain = w.2 }, omega (arith, w.1.size, ap length w.0))

-- an operand's field
pub term-size : (p : List ℕ) (t : Term) → read_term p ≡ some t → Termed t × (length p ≤ 14)
term-size p t e = let w = term-written p t e in (w.1, omega (arith, w.1.size, ap length w.0))

-- two hex digits
pub hex_size : (p : List ℕ) (v : ℕ) → read_hex p ≡ some v → length p ≡ 2
unfolding read_hex
hex_size p v e =
    let a = ltb (hex_digit (get_or p 0 0)) 16 in
    let b = ltb (hex_digit (get_or p 1 0)) 16 in
    let k = provided-some (eqb (length p) 2 && a && b) _ e in
    eqb-true (length p) 2 (and-true (eqb (length p) 2) a (and-true (eqb (length p) 2 && a) b k.0).0).0

-- one digit
pub count-size : (p : List ℕ) (v : ℕ) → read_count p ≡ some v → length p ≡ 1
unfolding read_count
count-size p v e =
    let b = within 49 56 (get_or p 0 0) in
    let k = provided-some (eqb (length p) 1 && b) _ e in
    eqb-true (length p) 1 (and-true (eqb (length p) 1) b k.0).0

-- fields that each have at most c bytes
pub each-size : {A : Type 0} (f : List ℕ → Option A) (P : A → Type 0) (c : ℕ)
    → ((p : List ℕ) (a : A) → f p ≡ some a → P a × (length p ≤ c)) → (ps : List (List ℕ)) (l : List A)
    → each f ps ≡ some l → Each P l × (weight ps ≤ (c + 1) * length ps)
unfolding each weight
each-size f P c h [] l e = (subst (Each P) (some_same e) tt, omega arith)
each-size f P c h (p ∷ ps) l e =
    let a = bind_some (f p) (λ a. each f ps >>= λ rest. some (a ∷ rest)) e in
    let b = bind_some (each f ps) (λ rest. some (a.0 ∷ rest)) a.2 in
    let k = h p a.0 a.1 in
    let ih = each-size f P c h ps b.0 b.1 in (
      subst (Each P) (some_same b.2) (k.0, ih.0),
      omega (arith, k.1, ih.1, mul_next c (length ps)),
    )
  where
    mul_next : (c n : ℕ) → (c + 1) * suc n ≡ (c + 1) * n + (c + 1)
    mul_next c n = omega arith

-- ---- pieces

-- the bytes of the word and of n fields, one more for each
abbrev pub front_weight : ℕ → List (List ℕ) → ℕ
front_weight zero ps = length (field 0 ps) + 1
front_weight (suc n) ps = front_weight n ps + (length (field (suc n) ps) + 1)

-- the word and n fields, and what stands behind them
pub weight-front : (n : ℕ) (ps : List (List ℕ)) → n < length ps
    → weight ps ≡ front_weight n ps + weight (drop (suc n) ps)
unfolding weight
weight-front zero [] h = absurd (omega arith)
weight-front zero (p ∷ ps) h = refl
weight-front (suc n) ps h =
    let here : weight (drop (suc n) ps) ≡ length (field (suc n) ps) + 1 + weight (drop (suc (suc n)) ps) =
    ap weight (drop-cons ps (suc n) [] h) in
    omega (arith, weight-front n ps (omega arith), here)

-- the word and n fields alone
pub weight-whole : (n : ℕ) (ps : List (List ℕ)) → fields n (length ps) ≡ true → weight ps ≡ front_weight n ps
unfolding weight
weight-whole n ps e =
    let size : length ps ≡ n + 1 = eqb-true (length ps) (n + 1) e in
    let short : length ps ≤ suc n = omega arith in
    let none : weight (drop (suc n) ps) ≡ 0 = ap weight (drop_of_length-le ps short) in
    omega (arith, weight-front n ps (omega arith), none)
