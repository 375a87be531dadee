use Rattle.std.proofs.Common.{rules, tests}
use Rattle.std.proofs.lemmas.Iterator.{YieldsList-from_slice}
use Rattle.std.proofs.lemmas.Iterator.Search.{all_from_yields_List}
use mathlib.Core.Path.{◌∙◌}
use Rattle.tokens.proofs.Laws.Library.{all-passed}
use Rattle.tokens.specs.Ascii.{allowed}
use Rattle.tokens.proofs.bytes.all_allowed.Goals as goal

pub returns : goal.returns
returns c =
    all_from_yields_List allowed _ _ c.all.result c.all.ensures.ran (YieldsList-from_slice c.args.s.now cc)
    (λ x b q k. search (rules, tests))
    ∙ all-passed allowed _
