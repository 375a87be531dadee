pub mod Names
pub mod Found
pub mod Coded
pub mod Compiled
