pub mod Fitting
pub mod Joins
