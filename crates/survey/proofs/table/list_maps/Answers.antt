use Rattle.std.proofs.Common.{ap, ◌∙◌, rules}
use Rattle.field.specs.Maps.{coefficients_of}
use Rattle.rules.specs.declared.types.AffineMap.{AffineMap}
use Rattle.survey.proofs.Laws.Filling.{listed-none, listed_more, constants_none, constants_more, map_next}
use Rattle.survey.proofs.table.list_maps.Goals as goal

pub loop-f-init : goal.loop-f-init
loop-f-init c = (listed-none c.args.m c.args.maps.now, constants_none c.args.maps.now)

pub loop-f-preserved : goal.loop-f-preserved
loop-f-preserved c =
    let a = c.args in
    let l = c.loop-f in
    let next = map_next a.maps.now l.f _ (search rules) in (
      listed_more a.m a.maps.now l.t.lists l.f c.coefficients.result (search rules)
          (c.coefficients.ensures ∙ ap (λ (x : AffineMap). coefficients_of a.m x.columns) next) l.invariant.0,
      constants_more a.maps.now l.t.constants l.f _ (search rules)
          (ap (λ (x : AffineMap). x.constant) next) l.invariant.1,
    )
