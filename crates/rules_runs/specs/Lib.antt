pub mod Fourteen
pub mod Further
