pub mod Frames
pub mod Packets
pub mod Spoken
