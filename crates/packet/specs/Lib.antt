pub mod Layout
pub mod Arguments
pub mod Packet
pub mod Opaque
pub mod Refusals
pub mod Answers
