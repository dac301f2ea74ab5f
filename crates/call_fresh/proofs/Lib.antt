pub mod Zeros
pub mod Cases
