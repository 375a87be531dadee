-- `product::merge::merge_step` meets its contract: the piece's term, the sum's, or both joined. Assumes nothing.
use Rattle.product.proofs.Lent.Merging.{told-order, step-piece, step_sum, step_both}
use Rattle.product.proofs.merge.merge_step.Goals as goal

-- what each of the three steps writes, and which comes first by the answer: each case is proved from these
ruleset merge-steps = (step-piece, step_sum, step_both, told-order)

pub returns-in-Less : goal.returns-in-Less
returns-in-Less c = search merge-steps

pub returns-in-Greater : goal.returns-in-Greater
returns-in-Greater c = search merge-steps

pub returns-in-Equal : goal.returns-in-Equal
returns-in-Equal c = search merge-steps
