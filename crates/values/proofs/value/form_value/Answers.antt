-- `values::value::form_value` meets its contract. Each arm by its law of Laws/Values. Assumes nothing.
use Rattle.values.specs.Found.{found_value}
use Rattle.values.proofs.Laws.Values.{copy-asked, sum-asked, product_asked, image-asked, formed-at}
use Rattle.values.proofs.value.form_value.Goals as goal

pub form_copy-requires : goal.form_copy-requires
form_copy-requires c =
    copy-asked c.requires
    c.in-Copy.is

pub form_sum-requires : goal.form_sum-requires
form_sum-requires c =
    sum-asked c.requires
    c.in-Sum.is

pub form_product-requires : goal.form_product-requires
form_product-requires c =
    product_asked c.requires
    c.in-Product.is

pub form_image-requires : goal.form_image-requires
form_image-requires c =
    image-asked c.requires
    c.in-Image.is

pub returns-in-Copy : goal.returns-in-Copy
unfolding found_value
returns-in-Copy c =
    formed-at c.requires
    c.in-Copy.is
    c.form_copy.ensures

pub returns-in-Sum : goal.returns-in-Sum
unfolding found_value
returns-in-Sum c =
    formed-at c.requires
    c.in-Sum.is
    c.form_sum.ensures

pub returns-in-Product : goal.returns-in-Product
unfolding found_value
returns-in-Product c =
    formed-at c.requires
    c.in-Product.is
    c.form_product.ensures

pub returns-in-Image : goal.returns-in-Image
unfolding found_value
returns-in-Image c =
    formed-at c.requires
    c.in-Image.is
    c.form_image.ensures
