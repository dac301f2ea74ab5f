pub mod Uniques
