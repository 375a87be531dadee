pub mod Groups
pub mod Passing
pub mod Putting
pub mod Leads
pub mod Searching
