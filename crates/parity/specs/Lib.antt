pub mod Parity
pub mod Cells
