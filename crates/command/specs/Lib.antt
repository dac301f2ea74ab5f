pub mod Order
pub mod Texts
pub mod Say
