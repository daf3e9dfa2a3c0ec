pub mod Laws
pub mod Offers
pub mod Writable
