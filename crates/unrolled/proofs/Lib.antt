pub mod Laws
pub mod Unrolled
pub mod Judged
pub mod Examples
