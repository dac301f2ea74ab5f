pub mod Settled
pub mod Texts
pub mod Hearing
pub mod Draws
pub mod Decides
pub mod Ends
pub mod Steps
