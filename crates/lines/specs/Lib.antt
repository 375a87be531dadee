pub mod Stage
pub mod Lets
pub mod Given
pub mod Known
pub mod Added
pub mod Stored
pub mod Taken
