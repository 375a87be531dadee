-- `search::put::put` meets its contract. Assumes nothing.
use native.Mathlib.Omega.{arith}
use Rattle.search.proofs.Lent.Putting.{put-start, put_asks, put-more, put-done}
use Rattle.search.proofs.put.put.Goals as goal

pub loop-j-init : goal.loop-j-init
loop-j-init c =
    let a = c.args in
    record { powers = c.power_table-table.ensures; read = put-start a.m a.b.now a.k a.w a.i a.a c.requires }

pub put_step-g-requires : goal.put_step-g-requires
put_step-g-requires c =
    let l = c.loop-j in
    let a = c.args in
    put_asks a.m a.b.now a.k a.w a.i a.a l.b l.g.terms l.g.sum l.j l.invariant.read (omega arith)

pub loop-j-preserved : goal.loop-j-preserved
loop-j-preserved c =
    let l = c.loop-j in
    let s = c.put_step-g in
    let a = c.args in
    record {
      powers = l.invariant.powers;
      read =
          put-more a.m a.b.now a.k a.w a.i a.a l.b l.g.terms l.g.sum l.j l.invariant.read s.new.b s.result.terms
          s.result.sum (omega arith) (s.ensures a.a l.invariant.powers);
    }

pub returns : goal.returns
returns c =
    let l = c.loop-j in
    let a = c.args in
    put-done a.m a.b.now a.k a.w a.i a.a l.b l.g.terms l.g.sum l.j l.invariant.read (omega arith)
