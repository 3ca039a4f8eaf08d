pub mod Host
pub mod Seen
pub mod HostRun
pub mod Table
