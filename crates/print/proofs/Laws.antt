pub mod Put
pub mod Head
pub mod Listed
pub mod Line
pub mod Roomy
