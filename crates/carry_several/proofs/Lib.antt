pub mod Several
pub mod Rendered
