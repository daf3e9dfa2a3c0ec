pub mod Wire
pub mod Plain
