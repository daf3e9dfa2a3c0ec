pub mod Laws
pub mod Bytes
pub mod Emits
