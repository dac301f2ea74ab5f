pub mod Tests
pub mod Rows
pub mod Pairs
pub mod Unions
pub mod Arrays
