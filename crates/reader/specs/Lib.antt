pub mod Points
pub mod Read
