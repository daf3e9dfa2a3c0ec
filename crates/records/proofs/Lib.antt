pub mod Forward
pub mod Inverse
pub mod Trips
pub mod Place
pub mod Answers
pub mod Results
