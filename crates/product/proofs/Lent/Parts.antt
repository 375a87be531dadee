-- A part of a buffer that is lent on: its terms, and the buffer when the part came back. Assumes nothing.
use mathlib.Core.Path.{◌≡◌, sym, ap, ◌∙◌}
use mathlib.Core.List.{List, ◌++◌}
use Prim.Native.Nat.{ℕ, suc, ◌+◌, ◌*◌, ◌-◌, ◌≤◌, ◌<◌}
use native.Mathlib.Omega.{arith}
use native.Mathlib.Nat.{zero-add}
use lib.ListN.{length, get_or, take, drop}
use lib.Seq.{get_or-take, get_or-drop}
use borrow.Author.Rules.{rules}
use Rattle.std.proofs.lemmas.List.{places}
use Rattle.buffer.specs.Buffer.{read_terms}
use Rattle.buffer.specs.Move.{Written}
use Rattle.buffer.proofs.Lent.Reads.{read-shift}

-- the bytes `from` to `to`
abbrev pub part : List ℕ → ℕ → ℕ → List ℕ
part b from to = take (to - from) (drop from b)

-- the buffer b whose bytes `from` to `to` came back as x
abbrev pub returned : List ℕ → ℕ → ℕ → List ℕ → List ℕ
returned b from to x = take from b ++ (x ++ drop (to - from) (drop from b))

module _ (b : List ℕ) (from to : ℕ) (h : from ≤ to) (f : to ≤ length b) where
  -- the part has as many bytes
  pub part_length : length (part b from to) ≡ to - from
  part_length = search (rules, places)

  -- the terms of the part
  pub part-read : (n m : ℕ) → m * suc n ≤ to - from → read_terms n (part b from to) 0 m ≡ read_terms n b from m
  part-read n m l =
      sym (ap (λ (x : ℕ). read_terms n b x m) (sym (zero-add from))
      ∙ read-shift n (part b from to) b 0 from m (omega (arith, part_length)) (omega arith) (λ i p q.
      let e : i + from ≡ from + i = omega arith in
      ap (λ (x : ℕ). get_or b x 0) e
      ∙ sym (get_or-take (to - from) (drop from b) i 0 (omega arith) ∙ get_or-drop from b i 0)))

  module _ (x : List ℕ) (s : length x ≡ to - from) where
    -- the buffer is as long as it was
    pub returned-size : length (returned b from to x) ≡ length b
    returned-size = search (rules, places)

    -- below the part nothing changed
    pub returned-low : (i : ℕ) → i < from → get_or (returned b from to x) i 0 ≡ get_or b i 0
    returned-low i l = search (rules, places)

    -- in the part stands what came back
    pub returned_in : (i : ℕ) → i < to - from → get_or (returned b from to x) (i + from) 0 ≡ get_or x i 0
    returned_in i l = search (rules, places)

    -- behind the part nothing changed
    pub returned-high : (i : ℕ) → to ≤ i → get_or (returned b from to x) i 0 ≡ get_or b i 0
    returned-high i l = search (rules, places)

    -- the terms that came back
    pub returned-read : (n m : ℕ) → m * suc n ≤ to - from
        → read_terms n (returned b from to x) from m ≡ read_terms n x 0 m
    returned-read n m l =
        ap (λ (y : ℕ). read_terms n (returned b from to x) y m) (sym (zero-add from))
        ∙ read-shift n x (returned b from to x) 0 from m (omega arith) (omega (arith, returned-size))
        (λ i p q. returned_in i (omega arith))

    -- they are written there
    pub returned-written : Written b (returned b from to x) from x
    returned-written = record {
      size = returned-size;
      low = returned-low;
      here = λ i l.
          let e : from + i ≡ i + from = omega arith in
          ap (λ (y : ℕ). get_or (returned b from to x) y 0) e ∙ returned_in i (omega arith);
      high = λ i l. returned-high i (omega arith);
    }
