pub mod Names
pub mod Hand
pub mod Listed
