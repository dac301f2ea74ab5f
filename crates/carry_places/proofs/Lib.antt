pub mod Laid
pub mod Each
pub mod Changes
pub mod Final
