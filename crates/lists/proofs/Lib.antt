pub mod Lists
pub mod Cases
pub mod Maps
pub mod Rows
pub mod Searches
pub mod Filling
pub mod Lowest
pub mod Alike
