-- `values::form::form_image` meets its contract. The map of what was loaded. Assumes nothing.
use lib.ListN.{replicate, take}
use native.Mathlib.Omega.{arith}
use Prim.Native.Nat.{ℕ, ◌-◌}
use Rattle.values.proofs.Laws.Forming.{image-asked, image-formed, row-lent}
use Rattle.values.specs.Load.{most_term_bytes}
use Rattle.values.proofs.form.form_image.Goals as goal

pub apply_map-requires : goal.apply_map-requires
apply_map-requires c =
    let a = c.args in
    let p = c.requires in
    let load = c.load in
    let slice-known3 = c.slice_known-3-1 in
    let size-of = c.size_of-k in (
      p.1,
      image-asked _ a.m a.c _ size-of.ensures
          p.2 p.3 load.ensures (row-lent a.w p.3.most) p.0
          (λ i. omega (arith, slice-known3.given i)),
    )

pub returns : goal.returns
returns c =
    let a = c.args in
    let p = c.requires in
    let load = c.load in
    let size-of = c.size_of-k in
    let apply-map = c.apply_map in
    image-formed (take {A = ℕ} (a.w - 0) (replicate most_term_bytes 0)) a.m a.c _ size-of.ensures
    p.2 p.3 load.ensures (row-lent a.w p.3.most) _ apply-map.new.b _
    apply-map.ensures
