-- A statement reads the same values where values without a name are given free names. Assumes nothing.
use Prim.Native.Nat.{ℕ}
use mathlib.Core.Path.{◌≡◌, refl, ap, ap₂, ◌∙◌}
use mathlib.Core.Bool.{false, not}
use mathlib.Core.List.{List, [], ◌∷◌, map as map_list}
use Rattle.rules.specs.declared.types.Operand.TheVariants.{Place}
use Rattle.rules.specs.declared.types.Op.{Op}
use Rattle.rules.specs.declared.types.Op.TheVariants.{Set, Xor, Mul, App}
use Rattle.tokens.specs.Ascii.{any}
use Rattle.tokens.specs.Byte.{Each}
use Rattle.tokens.specs.Token.{Name, Term, name, byte}
use Rattle.tokens.proofs.Laws.Written.{Named}
use Rattle.tokens.proofs.Laws.Terms.{Termed}
use Rattle.grammar.specs.Record.{Form, set, xor, mul, app, rand}
use Rattle.grammar.proofs.Laws.Written.{SpeltForm}
use Rattle.rules.specs.Scope.{place_of, missing, unknown_term, unknown_form, operand_in, op_in}
use Rattle.unrolled.proofs.Laws.Set.{In, in_missing}
use Rattle.unrolled.proofs.Laws.Filled.{filled, Off, place-filled, given-filled}
use Rattle.tokens.proofs.Laws.Flags.{or_false}

module _ (free ns : List Name) (off : (n : Name) → Named n → In n ns → Off free n) where
  -- a name that is read is not missing
  pub missing-filled : (n : Name) → Named n → missing ns n ≡ false → missing (filled free 0 ns) n ≡ false
  unfolding missing
  missing-filled n h e = ap not (given-filled free n (off n h (in_missing n ns e)) 0 ns) ∙ e

  -- its place is the same
  pub place_read : (n : Name) → Named n → missing ns n ≡ false → place_of n (filled free 0 ns) ≡ place_of n ns
  place_read n h e = place-filled free n (off n h (in_missing n ns e)) 0 ns

  -- an operand
  pub term-known : (a : Term) → Termed a → unknown_term ns a ≡ false → unknown_term (filled free 0 ns) a ≡ false
  unfolding unknown_term
  term-known (name n) h e = missing-filled n h.named e
  term-known (byte b) h e = refl

  -- its value's place, or its byte
  pub term_read_lem : (a : Term) → Termed a → unknown_term ns a ≡ false → operand_in (filled free 0 ns) a ≡ operand_in ns a
  unfolding unknown_term operand_in
  term_read_lem (name n) h e = ap Place (place_read n h.named e)
  term_read_lem (byte b) h e = refl

  -- what a statement reads is given
  pub form-known : (maps : List Name) (f : Form) → SpeltForm f → unknown_form ns maps f ≡ false
      → unknown_form (filled free 0 ns) maps f ≡ false
  unfolding unknown_form
  form-known maps (set a) h e = term-known a h e
  form-known maps (xor a b) h e =
      let k = or_false (unknown_term ns a) (unknown_term ns b) e in
      rw (term-known a h.0 k.0, term-known b h.1 k.1)
  form-known maps (mul a b) h e =
      let k = or_false (unknown_term ns a) (unknown_term ns b) e in
      rw (term-known a h.0 k.0, term-known b h.1 k.1)
  form-known maps (app f a) h e =
      let k = or_false (missing maps f) (unknown_term ns a) e in
      rw (k.0, term-known a h.1 k.1)
  form-known maps rand h e = refl

  -- THEOREM: what it computes is the same
  pub form-read : (maps : List Name) (v : ℕ) (f : Form) → SpeltForm f → unknown_form ns maps f ≡ false
      → op_in (filled free 0 ns) maps v f ≡ op_in ns maps v f
  unfolding unknown_form op_in
  form-read maps v (set a) h e = ap Set (term_read_lem a h e)
  form-read maps v (xor a b) h e =
      let k = or_false (unknown_term ns a) (unknown_term ns b) e in
      ap₂ {C = Op} Xor (term_read_lem a h.0 k.0) (term_read_lem b h.1 k.1)
  form-read maps v (mul a b) h e =
      let k = or_false (unknown_term ns a) (unknown_term ns b) e in
      ap₂ {C = Op} Mul (term_read_lem a h.0 k.0) (term_read_lem b h.1 k.1)
  form-read maps v (app f a) h e =
      let k = or_false (missing maps f) (unknown_term ns a) e in
      ap (App (place_of f maps)) (term_read_lem a h.1 k.1)
  form-read maps v rand h e = refl

  -- the names of output
  pub names-known : (xs : List Name) → Each Named xs → any (missing ns) xs ≡ false
      → any (missing (filled free 0 ns)) xs ≡ false
  unfolding any
  names-known [] h e = refl
  names-known (x ∷ xs) h e =
      let k = or_false (missing ns x) (any (missing ns) xs) e in
      rw (missing-filled x h.0 k.0, names-known xs h.1 k.1)

  -- their places
  pub names_read_lem : (xs : List Name) → Each Named xs → any (missing ns) xs ≡ false
      → map_list (λ x. place_of x (filled free 0 ns)) xs ≡ map_list (λ x. place_of x ns) xs
  unfolding any
  names_read_lem [] h e = refl
  names_read_lem (x ∷ xs) h e =
      let k = or_false (missing ns x) (any (missing ns) xs) e in
      ap₂ {C = List ℕ} ◌∷◌ (place_read x h.0 k.0) (names_read_lem xs h.1 k.1)
