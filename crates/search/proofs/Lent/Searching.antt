-- The search: each byte tried, and each variable found. Assumes nothing.
use mathlib.Core.Path.{◌≡◌, refl, sym, ap, ap₂, ◌∙◌, subst}
use mathlib.Core.Logic.{◌⊎◌, inl, inr}
use mathlib.Core.List.{List, [], ◌∷◌, ◌++◌, append_assoc}
use Prim.Native.Nat.{ℕ, suc, ◌+◌, ◌*◌, ◌-◌, ◌≤◌, ◌<◌, zero-le}
use native.Mathlib.Omega.{arith}
use native.Mathlib.Nat.{suc-mul, mul-le-mul_right, zero-add, le_refl, eq-or-lt_of_le}
use native.Mathlib.Numerals.{add-one}
use lib.ListN.{length, get_or, take, set, replicate, length-set}
use lib.Seq.{take-suc-set, get_or-set_other}
use Rattle.field.specs.Field.{Modulus}
use Rattle.field.specs.Laws.{Ops, gf}
use Rattle.field.proofs.Laws.Field.{gf_laws}
use Rattle.poly.specs.Poly.{Poly}
use Rattle.poly.specs.First.{put, put_slot, first_byte, first_differing, tried}
use Rattle.poly.specs.Canon.{Powers, Some, Canon}
use Rattle.buffer.specs.Buffer.{read_terms}
use Rattle.search.specs.Put.{Led, PutAsked, Put}
use Rattle.search.specs.Search.{SearchAsked}
use Rattle.poly.proofs.Laws.Reduced.{canon-put}
use Rattle.poly.proofs.Laws.First.{first_byte-before, first_byte-some, first_byte-bound}
use Rattle.poly.proofs.Laws.Slots.{lead, lead-none, bytes_nonempty, put_slot-lead}
use Rattle.buffer.proofs.Lent.Reads.{read_length}
use Rattle.search.proofs.Lent.Leads.{cut, cut-lead, lead-led, lead-canon, lead-length, none_of_length}
use Rattle.search.proofs.Lent.Leads.{some_of_length, cut-none}

-- ---- the terms that are left when bytes were put in for the first i variables

-- the k terms of b without their first i powers
abbrev pub rest : ℕ → ℕ → List ℕ → ℕ → Poly
rest w i b k = cut i (read_terms (w - 1) b 0 k)

-- bytes are put in for the first i variables, and k terms are left, at least one
pub record Left (m w i : ℕ) (b : List ℕ) (k : ℕ) : Type 0 where
  pub modulus : Modulus m
  pub source : k * w ≤ length b
  pub reads : read_terms (w - 1) b 0 k ≡ lead i (rest w i b k)
  pub canon : Canon (w - 1 - i) (rest w i b k)
  pub some : Some (rest w i b k)

module _ (m w i : ℕ) (b : List ℕ) (k : ℕ) (l : suc i < w) (h : Left m w i b k) where
  -- the field
  abbrev F : Ops
  F = gf m

  -- the terms that are left
  abbrev P : Poly
  P = rest w i b k

  -- one variable is at hand, and the rest behind it
  one_more : w - 1 - i ≡ suc (w - 1 - suc i)
  one_more = omega arith

  -- the terms are reduced in so many variables
  canon-suc : Canon (suc (w - 1 - suc i)) P
  canon-suc = subst (λ (x : ℕ). Canon x P) one_more h.canon

  -- what it asks to put in a byte
  pub left_asks : PutAsked m b k w i
  left_asks = record {
    modulus = h.modulus;
    inside = l;
    source = h.source;
    canon = subst (Canon (w - 1)) (sym h.reads) (lead-canon i (w - 1 - i) (w - 1) P (omega arith) h.canon);
    led = subst (Powers (Led i)) (sym h.reads) (lead-led i P);
  }

  -- the byte that is looked for is one
  pub left-bound : first_byte F P ≤ 255
  left-bound =
      first_byte-bound F (gf_laws h.modulus) {n = w - 1 - suc i} 255 (replicate (w - 1 - suc i) 255) P (omega arith)
      canon-suc h.some canon-suc.powers

  module _ (b' : List ℕ) (a r : ℕ) (g : Put m b b' k w i a r) where
    -- the terms when a is put in
    after : read_terms (w - 1) b' 0 r ≡ lead (suc i) (put F a P)
    after =
        g.held.terms ∙ ap (put_slot F i a) h.reads
        ∙ put_slot-lead F i a P (bytes_nonempty (w - 1 - suc i) P canon-suc.powers)

    -- how many they are
    after-length : r ≡ length (put F a P)
    after-length = sym (read_length (w - 1) b' 0 r) ∙ ap length after ∙ lead-length (suc i) (put F a P)

    -- nothing is left: the byte that is looked for is larger
    pub left_on : a ≤ first_byte F P → r ≡ 0 → a < first_byte F P
    left_on q z = go (eq-or-lt_of_le q)
      where
        none : put F a P ≡ []
        none = none_of_length (put F a P) (sym after-length ∙ z)

        go : (a ≡ first_byte F P) ⊎ (a < first_byte F P) → a < first_byte F P
        go (inl e) =
            absurd (subst Some (ap (λ (x : ℕ). put F x P) (sym e) ∙ none)
            (first_byte-some F P (omega (arith, left-bound))))
        go (inr n) = n

    module _ (q : a ≤ first_byte F P) (z : 0 < r) where
      -- a term is left: this is the byte
      pub left-found : a ≡ first_byte F P
      left-found = go (eq-or-lt_of_le q)
        where
          go : (a ≡ first_byte F P) ⊎ (a < first_byte F P) → a ≡ first_byte F P
          go (inl e) = e
          go (inr n) = absurd (omega (arith, after-length, ap length (first_byte-before F P a n)))

      -- the same without the powers of variables that are done
      after-rest : rest w (suc i) b' r ≡ put F a P
      after-rest = ap (cut (suc i)) after ∙ cut-lead (suc i) (put F a P)

      -- the next variable
      pub left-next : Left m w (suc i) b' r
      left-next = record {
        modulus = h.modulus;
        source = omega (arith, mul-le-mul_right w g.most, h.source, g.held.size);
        reads = after ∙ sym (ap (lead (suc i)) after-rest);
        canon = subst (Canon (w - 1 - suc i)) (sym after-rest)
            (canon-put F (gf_laws h.modulus) {n = w - 1 - suc i} a P canon-suc);
        some = subst Some (sym after-rest) (some_of_length (put F a P) (omega (arith, after-length)));
      }

      -- the bytes still to be found: this one, and those of what is left
      pub left-bytes : first_differing F (w - 1 - i) P ≡ a ∷ first_differing F (w - 1 - suc i) (rest w (suc i) b' r)
      left-bytes =
          ap (λ (x : ℕ). first_differing F x P) one_more
          ∙ ap {B = List ℕ} (λ (x : ℕ). x ∷ first_differing F (w - 1 - suc i) (put F x P)) (sym left-found)
          ∙ ap {B = List ℕ} (λ (x : Poly). a ∷ first_differing F (w - 1 - suc i) x) (sym after-rest)

-- ---- the loop over bytes: none below a leaves a term

-- variable i: no byte below a leaves a term, and n bytes were tried so far
pub record Trying (m w i : ℕ) (b₀ : List ℕ) (left₀ tried₀ : ℕ) (b : List ℕ) (left n a : ℕ) : Type 0 where
  pub inside : suc i < w
  pub state : Left m w i b₀ left₀
  pub same : b ≡ b₀
  pub terms : left ≡ left₀
  pub count : n ≡ tried₀ + a
  pub below : a ≤ first_byte (gf m) (rest w i b₀ left₀)

module _ {m w i : ℕ} {b₀ : List ℕ} {left₀ tried₀ : ℕ} where
  module _ {b : List ℕ} {left n a : ℕ} (h : Trying m w i b₀ left₀ tried₀ b left n a) where
    -- the terms are as they were
    state-here : Left m w i b left
    state-here =
        subst (λ (x : List ℕ). Left m w i x left) (sym h.same) (subst (Left m w i b₀) (sym h.terms) h.state)

    -- and so is what they give
    rest-here : rest w i b left ≡ rest w i b₀ left₀
    rest-here = ap₂ (λ (x : List ℕ) (y : ℕ). rest w i x y) h.same h.terms

    -- a is a byte
    pub trying_bound : a ≤ 255
    trying_bound = omega (arith, h.below, left-bound m w i b₀ left₀ h.inside h.state)

    -- what it asks to put in a
    pub trying_asks : PutAsked m b left w i
    trying_asks = left_asks m w i b left h.inside state-here

    -- a leaves no term: the next byte
    pub trying_more : {b' : List ℕ} {r : ℕ} → Put m b b' left w i a r → r ≡ 0
        → Trying m w i b₀ left₀ tried₀ b' left (n + 1) (a + 1)
    trying_more {b'} {r} g z =
        let f : a < first_byte (gf m) (rest w i b left) =
        left_on m w i b left h.inside state-here b' a r g
        (subst (λ (x : Poly). a ≤ first_byte (gf m) x) (sym rest-here) h.below) z in
        record {
          inside = h.inside;
          state = h.state;
          same = g.kept z ∙ h.same;
          terms = h.terms;
          count = omega (arith, h.count);
          below = subst (λ (x : Poly). a + 1 ≤ first_byte (gf m) x) rest-here (omega arith);
        }

-- ---- the loop over variables: bytes are found for the first i, and put in

-- bytes are found for the first i variables and put in, n bytes were tried, and what is left gives the rest
pub record Finding (m : ℕ) (b₀ : List ℕ) (k w : ℕ) (bytes₀ b bytes : List ℕ) (left n i : ℕ) : Type 0 where
  pub asked : SearchAsked m b₀ k w bytes₀
  pub most : i < w
  pub state : Left m w i b left
  pub fewer : left ≤ k
  pub size : length b ≡ length b₀
  pub high : (x : ℕ) → k * w ≤ x → get_or b x 0 ≡ get_or b₀ x 0
  pub listed : length bytes ≡ length bytes₀
  pub behind : (x : ℕ) → w ≤ suc x → get_or bytes x 0 ≡ get_or bytes₀ x 0
  pub bound : n ≤ i * 256
  pub found : take i bytes ++ first_differing (gf m) (w - 1 - i) (rest w i b left) ≡ first_differing (gf m) (w - 1)
      (read_terms (w - 1) b₀ 0 k)
  pub count : n + tried (first_differing (gf m) (w - 1 - i) (rest w i b left))
      ≡ tried (first_differing (gf m) (w - 1) (read_terms (w - 1) b₀ 0 k))

-- the count with one byte more
tried-more : (a : ℕ) (xs : List ℕ) → tried (a ∷ xs) ≡ a + 1 + tried xs
tried-more a xs = omega arith

-- at first no byte is found
pub finding_start : {m : ℕ} {b : List ℕ} {k w : ℕ} {bytes : List ℕ} → SearchAsked m b k w bytes
    → Finding m b k w bytes b bytes k 0 0
finding_start {m} {b} {k} {w} a =
    let p : Poly = read_terms (w - 1) b 0 k in
    let e : rest w 0 b k ≡ p = cut-none p in
    let z : w - 1 - 0 ≡ w - 1 = omega arith in
    let f : first_differing (gf m) (w - 1 - 0) (rest w 0 b k) ≡ first_differing (gf m) (w - 1) p =
    ap₂ (λ (x : ℕ) (y : Poly). first_differing (gf m) x y) z e in
    record {
      asked = a;
      most = a.wide;
      state = record {
        modulus = a.modulus;
        source = a.source;
        reads = sym e ∙ sym (lead-none (rest w 0 b k));
        canon = subst (λ (x : ℕ). Canon x (rest w 0 b k)) (sym z) (subst (Canon (w - 1)) (sym e) a.canon);
        some = subst Some (sym e) (some_of_length p (omega (arith, read_length (w - 1) b 0 k, a.some)));
      };
      fewer = le_refl k;
      size = refl;
      high = λ x l. refl;
      listed = refl;
      behind = λ x l. refl;
      bound = zero-le;
      found = f;
      count = zero-add (tried (first_differing (gf m) (w - 1 - 0) (rest w 0 b k))) ∙ ap tried f;
    }

module _ {m : ℕ} {b₀ : List ℕ} {k w : ℕ} {bytes₀ b bytes : List ℕ} {left n i : ℕ}
    (h : Finding m b₀ k w bytes₀ b bytes left n i) where
  -- the byte a is found, by the a + 1 that were tried
  pub finding_more : {b₁ b' : List ℕ} {left₁ n₁ a r : ℕ} → Trying m w i b left n b₁ left₁ n₁ a
      → Put m b₁ b' left₁ w i a r → 0 < r
      → Finding m b₀ k w bytes₀ b' (set bytes i a) r (n₁ + 1) (i + 1)
  finding_more {b₁} {b'} {left₁} {n₁} {a} {r} t g₁ z =
      let g : Put m b b' left w i a r =
      subst (λ (x : ℕ). Put m b b' x w i a r) t.terms
      (subst (λ (x : List ℕ). Put m x b' left₁ w i a r) t.same g₁) in
      let q : suc i < w = t.inside in
      let d : List ℕ = first_differing (gf m) (w - 1 - suc i) (rest w (suc i) b' r) in
      let e : first_differing (gf m) (w - 1 - i) (rest w i b left) ≡ a ∷ d =
      left-bytes m w i b left q h.state b' a r g t.below z in
      let s : i < length bytes = omega (arith, h.listed, h.asked.list) in
      let c : length (set bytes i a) ≡ length bytes = length-set bytes i a in
      subst (Finding m b₀ k w bytes₀ b' (set bytes i a) r (n₁ + 1)) (sym (add-one i)) (record {
        asked = h.asked;
        most = q;
        state = left-next m w i b left q h.state b' a r g t.below z;
        fewer = omega (arith, g.most, h.fewer);
        size = g.held.size ∙ h.size;
        high = λ x p. g.held.high x (omega (arith, mul-le-mul_right w h.fewer)) ∙ h.high x p;
        listed = c ∙ h.listed;
        behind = λ x p. get_or-set_other bytes i x a 0 (omega arith) ∙ h.behind x p;
        bound = omega (arith, suc-mul i 256, h.bound, t.count, trying_bound t);
        found =
            ap {B = List ℕ} (λ (x : List ℕ). x ++ d) (take-suc-set bytes i a s) ∙ append_assoc (take i bytes) (a ∷ []) d
            ∙ ap {B = List ℕ} (λ (x : List ℕ). take i bytes ++ x) (sym e) ∙ h.found;
        count = omega (arith, h.count, ap tried e, tried-more a d, t.count);
      })
