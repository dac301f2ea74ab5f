pub mod Before
pub mod Rising
pub mod Rules
pub mod Counts
pub mod Bounds
pub mod Readable
pub mod Lines
pub mod Once
