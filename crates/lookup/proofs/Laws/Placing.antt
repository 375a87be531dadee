-- The first of some names that is the same as another: its place among them, where there is one. Assumes nothing.
use Prim.Native.Nat.{ℕ, ◌+◌, ◌≤◌}
use native.Mathlib.Omega.{arith}
use mathlib.Core.Path.{◌≡◌, refl, sym, ap, ◌∙◌}
use mathlib.Core.Bool.{Bool, true, false, cond, not}
use mathlib.Core.List.{List, map}
use lib.Dec.{ltb}
use lib.ListN.{length, take, drop, length-map}
use borrow.Author.Tests.{ltb-false}
use Rattle.std.specs.Prelude.{Option, Some, None, is_some, unwrap_or, position}
use Rattle.std.specs.List.{position_or_len}
use Rattle.std.proofs.lemmas.List.{take-map}
use lib.Seq.{take-take}
use Rattle.grammar.specs.Recorded.{names_read}
use Rattle.grammar.specs.declared.outputs.Outputs.{Outputs}
use Rattle.std.proofs.lemmas.List.Recursion.{is_position_or_len}
use Rattle.tokens.specs.Split.{until, later}
use Rattle.tokens.specs.Token.{Name, same_name}
use Rattle.tokens.proofs.Laws.Scan.{until_le}
use Rattle.grammar.specs.Line.{name_in}
use Rattle.grammar.specs.declared.line.NameRef.{NameRef}
use Rattle.rules.specs.Scope.{given, missing, place_of}
use Rattle.lookup.specs.declared.names.Names.{Names}
use Rattle.lookup.specs.Names.{names_in}
use Rattle.lookup.specs.Found.{name_found}
use Rattle.lookup.proofs.Laws.Named.{listed_part}

not_not : (b : Bool) → not (not b) ≡ b
not_not true = refl
not_not false = refl

module _ (ms : List Name) (n : Name) {x : Option ℕ} (q : x ≡ name_found ms n) where
  -- whether it is given
  pub found-given : is_some x ≡ given n ms
  unfolding name_found
  found-given = ap is_some q ∙ go (given n ms)
    where
      go : (b : Bool) → is_some (cond b (Some (place_of n ms)) None) ≡ b
      go true = refl
      go false = refl

  -- whether it is not
  pub found-missing : (u : Bool) → is_some x ≡ not u → u ≡ missing ms n
  unfolding missing
  found-missing u h = sym (not_not u) ∙ ap not (sym h ∙ found-given)

  -- its place, and the set's size where it is not given
  pub found-place : {count : ℕ} → count ≡ length ms → unwrap_or x count ≡ place_of n ms
  unfolding name_found place_of given
  found-place {count} l = ap (λ (o : Option ℕ). unwrap_or o count) q ∙ go (given n ms) refl
    where
      go : (b : Bool) → given n ms ≡ b → unwrap_or (cond b (Some (place_of n ms)) None) count ≡ place_of n ms
      go true e = refl
      go false e = omega (arith, l, ltb-false (place_of n ms) (length ms) e, until_le (same_name n) ms)

later-is : (b : Bool) (n : ℕ) → later b n ≡ cond b 0 (1 + n)
unfolding later
later-is true n = refl
later-is false n = omega arith

module _ (s : List ℕ) (n : Name) where
  first-place : (xs : List NameRef)
      → until (same_name n) (map (name_in s) xs) ≡ position_or_len (λ m. same_name n (name_in s m)) xs
  unfolding until
  first-place =
      is_position_or_len (λ xs. until (same_name n) (map (name_in s) xs)) (λ m. same_name n (name_in s m)) refl
      (λ x xs. later-is (same_name n (name_in s x)) (until (same_name n) (map (name_in s) xs)))

  -- what a search among the names finds
  pub place_found : (xs : List NameRef)
      → position (λ m. same_name n (name_in s m)) xs ≡ name_found (map (name_in s) xs) n
  unfolding name_found given place_of
  place_found xs =
      let e = sym (first-place xs) in
      let l = sym (length-map xs (name_in s)) in
      λ i. cond (ltb (e i) (l i)) (Some (e i)) None

-- whether a name of an output line is among those before place i
pub seen_given : (s : List ℕ) (o : Outputs) (i : ℕ) → i ≤ o.count → (n : Name) {r : Option ℕ}
    → r ≡ name_found (map (name_in s) (take i o.items)) n → is_some r ≡ given n (take i (names_read s o))
unfolding names_read
seen_given s o i h n q =
    let e : map (name_in s) (take i o.items) ≡ take i (map (name_in s) (take o.count o.items)) =
    ap (map (name_in s)) (sym (take-take i o.count o.items h)) ∙ sym (take-map (name_in s) i (take o.count o.items)) in
    found-given (take i (map (name_in s) (take o.count o.items))) n
    (q ∙ ap (λ (ms : List Name). name_found ms n) e)

-- the names of a set are those of a part of the table
pub names_part : (s : List ℕ) (t : List NameRef) (ns : Names) → ns.from + ns.count ≤ length t
    → map (name_in s) (take ns.count (drop ns.from t)) ≡ names_in s t ns
unfolding names_in
names_part s t ns h = sym (listed_part s t ns.from ns.count h)
