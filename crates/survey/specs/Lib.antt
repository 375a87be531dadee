pub mod Walk
pub mod Table
pub mod Difference
pub mod Survey
