pub mod Greatest
pub mod Rows
pub mod Ranks
pub mod Walk
