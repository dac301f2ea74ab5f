pub mod Laid
pub mod Answers
pub mod Forwarding
pub mod Rendered
