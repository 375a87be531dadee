-- The head's parts: the std's decimal digits are those of the line, and the numbers one behind the other.
-- Assumes nothing.
use mathlib.Core.Path.{◌≡◌, refl, sym, ◌∙◌}
use Prim.Native.Nat.{ℕ, ◌+◌, ◌≤◌, ◌<◌, ◌^◌}
use mathlib.Core.List.{List, [], ◌∷◌, ◌++◌, append_assoc, append-nil}
use lib.ListN.{length, take, get_or}
use lib.Seq.{take-suc, take_all}
use native.Mathlib.Numerals.{add-one}
use native.Mathlib.Nat.{lt_of_lt_of_le}
use lib.Dec.{lit<, lit≤}
use borrow.Author.Tests.{lt-ltb, le-ltb}
use Rattle.std.specs.Fmt.{decimal as text}
use Rattle.std.proofs.lemmas.Fmt.{PrependsLastDigit, decimal_from_prepends, length-decimal-le}
use Rattle.tokens.specs.Ascii.{tab}
use Rattle.verdict.specs.declared.report.Report.{Report}
use Rattle.verdict.specs.Print.{word, digits, decimal}
use Rattle.print.specs.Line.{head_of}

-- each number behind a tab
unfoldable pub tabbed : List ℕ → List ℕ
tabbed [] = []
tabbed (n ∷ ns) = tab ∷ decimal n ++ tabbed ns

-- the digits of the line are put last digit first
digits-prepend : PrependsLastDigit digits
unfolding digits
digits-prepend = record {
  one = λ k n acc h. rw (lt-ltb n 10 h);
  more = λ k n acc h. rw (le-ltb n 10 h);
}

-- the std's text of a number is the line's
pub decimal-text : (n : ℕ) → n < 2 ^ 64 → text n ≡ decimal n
unfolding decimal
decimal-text n h =
    let few = length-decimal-le 20 n (lit< tt) (lt_of_lt_of_le h (lit≤ tt)) h in
    sym (decimal_from_prepends digits digits-prepend 20 n [] h few ∙ append-nil (text n))

-- no number
pub tabbed-none : tabbed [] ≡ []
unfolding tabbed
tabbed-none = refl

-- numbers listed one behind the other
tabbed_append : (ns ms : List ℕ) → tabbed (ns ++ ms) ≡ tabbed ns ++ tabbed ms
unfolding tabbed
tabbed_append [] ms = refl
tabbed_append (n ∷ ns) ms = simp (tabbed_append ns ms, append_assoc)

-- one more number: a tab, then its text
pub tabbed-next : (w ns : List ℕ) (i : ℕ) {a b t : List ℕ} → i < length ns → get_or ns i 0 < 2 ^ 64
    → a ≡ w ++ tabbed (take i ns) → b ≡ a ++ tab ∷ [] → t ≡ text (get_or ns i 0)
    → b ++ t ≡ w ++ tabbed (take (i + 1) ns)
unfolding tabbed
tabbed-next w ns i {a} {b} {t} h l before tabs said =
    let d : text (get_or ns i 0) ≡ decimal (get_or ns i 0) = decimal-text _ l in
    rw (add-one, take-suc ns i 0, tabbed_append, append-nil, said, d, tabs, before, append_assoc, append_assoc)

-- the word and the five numbers; n is the refusal's number
pub head-tabbed : (r : Report) (n i : ℕ) → n ≡ r.refusal → 5 ≤ i
    → word r.verdict ++ tabbed (take i (n ∷ r.line ∷ r.terms ∷ r.tried ∷ r.idle ∷ [])) ≡ head_of r
unfolding head_of tabbed
head-tabbed r n i e h =
    let all : take i (n ∷ r.line ∷ r.terms ∷ r.tried ∷ r.idle ∷ []) ≡ n ∷ r.line ∷ r.terms ∷ r.tried ∷ r.idle ∷ [] =
    take_all i _ h in
    rw (all, e, append-nil, append_assoc, append_assoc, append_assoc, append_assoc)
