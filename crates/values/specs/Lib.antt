pub mod Shelf
pub mod Source
pub mod Load
pub mod Form
pub mod Raw
pub mod Found
pub mod Value
