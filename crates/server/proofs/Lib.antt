pub mod Histories
pub mod Edge
pub mod Mistakes
pub mod Rows
