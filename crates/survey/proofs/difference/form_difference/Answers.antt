-- `survey::difference::form_difference` meets its contract. The terms of the result and of all outputs inserted among
-- none. Assumes nothing.
use Rattle.survey.proofs.Laws.Outputs.{difference-formed}
use Rattle.survey.proofs.difference.form_difference.Goals as goal

pub returns : goal.returns
returns c =
    let a = c.args in
    let p = c.requires in
    let load = c.load in
    let size-of = c.size_of-i in
    let load-outputs = c.load_outputs-k in
    let add-terms = c.add_terms in
    difference-formed size-of.ensures p.0 p.1 p.2 load.ensures load-outputs.ensures a.m _ _
    add-terms.new.b (add-terms.ensures a.m)
