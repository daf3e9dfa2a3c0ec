pub mod Lowest
pub mod Plainly
pub mod Together
pub mod Behind
pub mod Turns
