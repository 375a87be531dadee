-- A state by its parts: two states are the same where their parts are. Assumes nothing.
use Prim.Native.Nat.{ℕ}
use mathlib.Core.Path.{◌≡◌, sym, ◌∙◌, ap}
use mathlib.Core.List.{List}
use lib.ListN.{take}
use Rattle.tokens.specs.Token.{Name}
use Rattle.rules.specs.declared.types.AffineMap.{AffineMap}
use Rattle.rules.specs.declared.types.Statement.{Statement}
use Rattle.rules.specs.State.{State}
use Rattle.lines.specs.declared.known.Known.{Known}
use Rattle.lines.specs.Stage.{stage_of}

-- no element of either list
pub take_none : {A : Type 0} (n : ℕ) (xs ys : List A) → n ≡ 0 → take n xs ≡ take n ys
take_none n xs ys z = ap (λ (m : ℕ). take m xs) z ∙ sym (ap (λ (m : ℕ). take m ys) z)

-- the state with the stage, shares, result and outputs of k, by its inputs, its variables and what its sets hold
abbrev pub state_of : Known → ℕ → ℕ → List Name → List AffineMap → List Name → List Statement → List Name
    → List Statement → State
state_of k inputs variables ns fs on os mn ms =
    record {
      stage = stage_of k.stage;
      shares = k.shares;
      map_names = ns;
      maps = fs;
      inputs = inputs;
      variables = variables;
      origin = record { names = on; statements = os };
      masked = record { names = mn; statements = ms };
      result = k.result;
      outputs = take k.named k.outputs;
    }

-- the sets hold the same
pub state-same : (k : Known) (inputs variables : ℕ) {ns ns' : List Name} {fs fs' : List AffineMap}
    {on on' : List Name} {os os' : List Statement} {mn mn' : List Name} {ms ms' : List Statement}
    → ns ≡ ns' → fs ≡ fs' → on ≡ on' → os ≡ os' → mn ≡ mn' → ms ≡ ms'
    → state_of k inputs variables ns fs on os mn ms ≡ state_of k inputs variables ns' fs' on' os' mn' ms'
state-same k inputs variables a b c d e f = λ i. state_of k inputs variables (a i) (b i) (c i) (d i) (e i) (f i)
