pub mod Concerned
