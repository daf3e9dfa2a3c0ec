pub mod Tickets
pub mod Sound
