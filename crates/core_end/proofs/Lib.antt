pub mod Laws
pub mod Zeroing
pub mod Turns
pub mod Naming
pub mod Named
