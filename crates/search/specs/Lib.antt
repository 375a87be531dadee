pub mod Put
pub mod Search
