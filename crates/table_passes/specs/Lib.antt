pub mod Arrays
pub mod Unions
