pub mod Product
pub mod Apply
pub mod Merge
