pub mod Unrolled
pub mod Lines
