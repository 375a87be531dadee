-- Each arm by computing; the sizes are small. Assumes nothing.
use Rattle.std.proofs.Common.{ℕ, ◌+◌, ◌*◌, [], get_or, ap, ap₂, ◌∙◌}
use Rattle.poly.specs.Size.{one_if, nonzeros}
use Rattle.values.specs.Found.{found_size}
use Rattle.values.proofs.raw.raw_size.Goals as goal

pub returns-in-Copy : goal.returns-in-Copy
unfolding found_size
returns-in-Copy c = rw c.in-Copy.is c.size_of.ensures

pub returns-in-Sum : goal.returns-in-Sum
unfolding found_size
returns-in-Sum c = rw c.in-Sum.is (ap₂ (λ (x y : ℕ). x + y) c.size_of-in-Sum.ensures c.size_of-in-Sum-2.ensures)

pub returns-in-Product : goal.returns-in-Product
unfolding found_size
returns-in-Product c =
    rw c.in-Product.is (ap₂ (λ (x y : ℕ). x * y) c.size_of-in-Product.ensures c.size_of-in-Product-2.ensures)

pub returns-in-Image : goal.returns-in-Image
unfolding found_size
returns-in-Image c =
    let t = c.args.t in
    let f = c.in-Image.f in
    let size : ℕ → ℕ = λ x. nonzeros (get_or t.lists f []) * x + one_if (get_or t.constants f 0) in
    rw c.in-Image.is (c.image_size.ensures ∙ ap size c.size_of-in-Image.ensures)
