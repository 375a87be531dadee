use Rattle.std.proofs.Common.{◌≡◌, ℕ, fold, take, bit_xor, ◌∙◌, rules}
use Rattle.text.specs.Routine.{outputs_of}
use Rattle.verdict.proofs.Laws.Turns.{joined-fold_map}
use Rattle.verdict.specs.Instances.{bytes}
use Rattle.verdict.specs.Meaning.{value_at}
use Rattle.verdict.proofs.block.join_outputs.Goals as goal

pub returns : goal.returns
unfolding outputs_of
returns c =
    let f : ℕ → ℕ = value_at (bytes c.args.m) c.args.vs.now in
    let e : c.fold.result ≡ fold (λ s p. bit_xor s (f p)) 0 (take c.args.r.named c.args.r.outputs) = search rules in
    e ∙ joined-fold_map c.args.m f (take c.args.r.named c.args.r.outputs)
