use Rattle.std.proofs.Common.{◌≡◌, fold, bit_xor, ◌∙◌, rules}
use Rattle.verdict.proofs.Laws.Turns.{joined-fold}
use Rattle.verdict.proofs.block.join.Goals as goal

pub returns : goal.returns
returns c =
    let e : c.fold.result ≡ fold bit_xor 0 c.args.xs.now = search rules in
    e ∙ joined-fold c.args.m c.args.xs.now
