pub mod Numbers
pub mod Tables
pub mod Bodies
pub mod Placing
pub mod Told
pub mod Refusals
pub mod Wide
pub mod Theorems
