pub mod Quiet
pub mod Grabbing
pub mod Abilities
pub mod Joining
pub mod Telling
