pub mod Buffer
pub mod Move
pub mod Insert
