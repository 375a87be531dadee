pub mod Lines
pub mod Stored
pub mod Walk
pub mod From
pub mod Given
pub mod Counts
