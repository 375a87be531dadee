pub mod Poly
pub mod Canon
pub mod Value
pub mod First
pub mod Size
pub mod Occurs
pub mod Pass
