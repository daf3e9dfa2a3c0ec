pub mod Moments
pub mod Refusals
pub mod Steps
pub mod Calls
