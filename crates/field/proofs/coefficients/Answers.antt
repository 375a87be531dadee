use borrow.Author.Rules.{rules}
use Rattle.field.specs.Field.{times}
use Rattle.field.specs.Maps.{coefficient, coefficients, coefficients_of, dual_of}
use Rattle.field.proofs.Laws.Sums.{fill_done}
use Rattle.field.proofs.Laws.Made.{made-at}
use Rattle.field.proofs.coefficients.Goals as goal

pub returns : goal.returns
unfolding coefficients_of coefficients
returns c =
    let g = c.args in
    let r = c.from_fn.ensures.items in
    let f = coefficient (times g.m) (dual_of g.m) g.columns in
    fill_done 8 f 0 c.from_fn.result r.long (made-at _ _ f 0 c.from_fn.result (λ i y q t. search rules) 8 r)
