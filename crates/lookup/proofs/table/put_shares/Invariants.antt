-- The invariant: the first `i` shares are stored. Assumes nothing.
use Rattle.lookup.specs.Names.{put_shares}
use mathlib.Core.Path.{◌≡◌}
use Rattle.lookup.proofs.table.put_shares.Given as goal

abbrev pub invariant-loop-i : goal.invariant-loop-i
invariant-loop-i l = l.t ≡ put_shares l.initial.t l.at l.x l.i
