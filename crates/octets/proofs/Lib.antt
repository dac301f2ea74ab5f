pub mod Strings
pub mod Laying
pub mod Runs
