pub mod Refusals
pub mod Written
