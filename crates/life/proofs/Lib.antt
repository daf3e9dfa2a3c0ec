pub mod Table
pub mod Begins
pub mod Sound
pub mod Given
pub mod Tickets
pub mod Boards
