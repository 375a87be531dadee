-- Each arm of `load`: what it asks of the function that it calls, and what it leaves.
-- Assumes nothing.
use mathlib.Core.Path.{◌≡◌, sym, subst}
use Prim.Native.Nat.{ℕ, ◌+◌, ◌*◌, ◌≤◌, ◌<◌}
use native.Mathlib.Omega.{arith}
use native.Mathlib.Nat.{mul-le-mul_right}
use mathlib.Core.List.{List}
use lib.ListN.{length}
use Rattle.poly.specs.Size.{one_if}
use Rattle.values.specs.declared.source.Source.{Source}
use Rattle.values.specs.declared.source.Source.TheVariants.{Constant, Variables, Stored}
use Rattle.values.specs.Shelf.{Laid}
use Rattle.values.specs.Source.{source_of, source_size, Fits}
use Rattle.values.specs.Load.{LayAsked, LoadAsked}

-- what is laid is what is found at x
abbrev Loaded : ℕ → List ℕ → List ℕ → List ℕ → ℕ → Source → Type 0
Loaded w left right right' at x = Laid w right right' at (source_size x) (source_of w left x)

module _ {left : List ℕ} {s : Source} {right : List ℕ} {at w : ℕ} (a : LoadAsked left s right at w) where
  -- a constant has the room that it asks
  pub constant-asked : {c : ℕ} → s ≡ Constant c → LayAsked right at (one_if c) w
  unfolding source_size
  constant-asked e = subst (λ (x : Source). LayAsked right at (source_size x) w) e a.asked

  -- variables have the room that they ask
  pub variables-asked : {i k : ℕ} → s ≡ Variables i k → (i + k < w) × LayAsked right at k w
  unfolding source_size
  variables-asked e =
      (subst (Fits w a.top) e a.fits, subst (λ (x : Source). LayAsked right at (source_size x) w) e a.asked)

  -- a value in the buffer has the room that it asks
  pub stored-asked : {from k : ℕ} → s ≡ Stored from k → ((from + k) * w ≤ length left) × LayAsked right at k w
  unfolding source_size
  stored-asked {from} {k} e =
      let f : from + k ≤ a.top = subst (Fits w a.top) e a.fits in (
        omega (arith, mul-le-mul_right w f, a.held),
        subst (λ (x : Source). LayAsked right at (source_size x) w) e
            a.asked,
      )

  -- the arm that is taken lays what is found there
  pub loaded_at : {x : Source} {right' : List ℕ} → s ≡ x → Loaded w left right right' at x
      → Loaded w left right right' at s
  loaded_at {right' = right'} e h = subst (Loaded w left right right' at) (sym e) h
