pub mod Replay
pub mod Edges
pub mod WrongServers
pub mod ReplayLines
pub mod LastSerial
pub mod Numbers
