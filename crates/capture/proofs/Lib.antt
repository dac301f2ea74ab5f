pub mod Framing
pub mod Cutting
pub mod Lines
pub mod Sent
pub mod Answered
pub mod Telling
pub mod Texts
pub mod Whole
