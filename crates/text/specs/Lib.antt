pub mod Routine
pub mod Ready
pub mod Reading
pub mod From
