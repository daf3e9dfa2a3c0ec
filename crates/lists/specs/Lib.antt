pub mod Lists
pub mod Numbers
pub mod Bits
pub mod Buffers
