pub mod Pieces
pub mod Chosen
pub mod Digits
pub mod Printed
pub mod Laying
