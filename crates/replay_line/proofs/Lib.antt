pub mod Digits
pub mod Replies
pub mod Texts
