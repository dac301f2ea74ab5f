pub mod Places
pub mod Distinct
