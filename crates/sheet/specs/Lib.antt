pub mod Sheet
pub mod Runs
