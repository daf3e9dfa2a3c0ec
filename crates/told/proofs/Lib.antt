pub mod Bytes
pub mod Asks
pub mod Stands
pub mod Openings
pub mod Rounds
pub mod Runs
pub mod Told
