pub mod Commands
pub mod Cells
pub mod Laws
pub mod Past
pub mod Bytes
pub mod Rounds
