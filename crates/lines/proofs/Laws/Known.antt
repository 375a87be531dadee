-- The counts behind one record more are within their limits. Assumes nothing.
use Prim.Native.Nat.{ℕ, ◌+◌, ◌≤◌, ◌<◌}
use native.Mathlib.Omega.{arith}
use mathlib.Core.Path.{◌≡◌, refl}
use mathlib.Core.Bool.{Bool, true, false, cond}
use mathlib.Core.List.{List}
use lib.Dec.{eqb}
use borrow.Author.Tests.{eqb-true}
use Rattle.tokens.specs.Limits.{most_shares}
use Rattle.lines.specs.declared.known.Known.{Known}
use Rattle.lines.specs.declared.order.Stage.{Stage}
use Rattle.lines.specs.Stage.{stage_of}
use Rattle.rules.specs.Order.{in_masked}
use Rattle.rules.specs.Limits.{most_maps, most_inputs, most_variables, most_statements}
use Rattle.lines.specs.Known.{Sound}
use Rattle.lines.specs.Added.{counting, input_added, origin_more, masked_more, InputFits, StatementsFit}

module _ (k : Known) (K : Sound k) where
  -- another stage, share count, count of maps, result or outputs
  pub steady : (stage : Stage) (shares mapped result : ℕ) (outputs : List ℕ) (named : ℕ) → shares ≤ 255
      → mapped ≤ most_maps
      → named ≤ most_shares
      → (stage_of stage < in_masked → k.masked ≡ 0)
      → Sound
      (record {
        stage = stage;
        shares = shares;
        mapped = mapped;
        inputs = k.inputs;
        variables = k.variables;
        origin = k.origin;
        masked = k.masked;
        wholes = k.wholes;
        parts = k.parts;
        result = result;
        outputs = outputs;
        named = named;
      })
  steady stage shares mapped result outputs named few more h apart =
      record {
        shares = few;
        mapped = more;
        inputs = K.inputs;
        variables = K.variables;
        statements = K.statements;
        named = h;
        wholes = K.wholes;
        parts = K.parts;
        apart = apart;
      }

  -- other counts
  counts-sound : (i v o m w p : ℕ) → i ≤ most_inputs → v ≤ most_variables → o + m ≤ most_statements → w ≡ i + o
      → p ≤ v + m → (stage_of k.stage < in_masked → m ≡ 0) → Sound (counting k i v o m w p)
  counts-sound i v o m w p inputs variables statements wholes parts apart =
      record {
        shares = K.shares;
        mapped = K.mapped;
        inputs = inputs;
        variables = variables;
        statements = statements;
        named = K.named;
        wholes = wholes;
        parts = parts;
        apart = apart;
      }

  -- one input more
  pub input-sound : InputFits k → Sound (input_added k)
  input-sound f =
      counts-sound _ _ _ _ _ _ (omega (arith, f.0)) f.1 K.statements (omega (arith, K.wholes))
      (omega (arith, K.parts)) K.apart

  module _ (n : ℕ) (f : StatementsFit k n) where
    -- so many statements more in their block
    pub stated-sound : (drawn : ℕ) → k.variables + drawn ≤ most_variables → (b : Bool)
        → eqb (stage_of k.stage) in_masked ≡ b
        → Sound (cond b (masked_more k drawn n) (origin_more k n))
    stated-sound drawn few true e =
        counts-sound _ _ _ _ _ _ K.inputs few (omega (arith, f.1)) K.wholes (omega (arith, K.parts))
        (λ l. absurd (omega (arith, eqb-true (stage_of k.stage) in_masked e, l)))
    stated-sound drawn few false e =
        counts-sound _ _ _ _ _ _ K.inputs K.variables (omega (arith, f.1)) (omega (arith, K.wholes)) K.parts
        K.apart

    -- they leave the stage
    pub stated-stage : (drawn : ℕ) (b : Bool) → (cond b (masked_more k drawn n) (origin_more k n)).stage ≡ k.stage
    stated-stage drawn true = refl
    stated-stage drawn false = refl
