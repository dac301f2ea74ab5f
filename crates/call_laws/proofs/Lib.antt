pub mod Conclusion
pub mod Admitted
pub mod Events
