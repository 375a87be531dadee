-- `print::head::head` meets its contract. Assumes nothing.
use mathlib.Core.Path.{ap, ◌∙◌}
use Prim.Native.Nat.{ℕ}
use mathlib.Core.List.{append-nil}
use lib.ListN.{length, length-append}
use native.Mathlib.Omega.{arith}
use Rattle.print.proofs.Laws.Head.{tabbed-none, tabbed-next, head-tabbed}
use Rattle.print.proofs.head.head.Goals as goal

pub loop-n-init : goal.loop-n-init
loop-n-init c = record {
  text = rw (c.push_str.ensures.bytes, c.new-head.ensures, c.word.ensures.value, tabbed-none, append-nil);
  room = omega (arith, c.push_str.ensures.len, ap length c.new-head.ensures, c.word.ensures.upper_bound);
}

pub loop-n-preserved : goal.loop-n-preserved
loop-n-preserved c =
    let tabs = c.push.ensures.ascii (omega arith) in
    record {
      text = c.push_str-in-loop-n.ensures.bytes
          ∙ tabbed-next _ _ _ c.loop-n-test.true c.loop-n-test.element_fits.fits c.loop-n.invariant.text tabs
          c.format.ensures.text;
      room = omega (
        arith,
        c.push_str-in-loop-n.ensures.len,
        ap length tabs,
        length-append {A = ℕ},
        c.format.ensures.fits,
      );
    }

pub returns : goal.returns
returns c = c.loop-n.invariant.text ∙ head-tabbed _ _ _ c.from-refusal.ensures (omega arith)
