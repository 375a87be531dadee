pub mod Ahead
pub mod Called
pub mod Handed
pub mod Held
pub mod Lines
pub mod Says
pub mod Taken
