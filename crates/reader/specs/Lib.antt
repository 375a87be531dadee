pub mod Cursor
pub mod Reader
pub mod Handed
