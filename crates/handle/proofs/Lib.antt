pub mod Decimal
pub mod Hubs
pub mod Handles
pub mod Printing
pub mod Reading
pub mod Examples
