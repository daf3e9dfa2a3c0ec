pub mod Play
pub mod Wire
pub mod Plain
pub mod Runs
pub mod Keeps
