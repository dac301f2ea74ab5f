pub mod Tests
pub mod Shapes
