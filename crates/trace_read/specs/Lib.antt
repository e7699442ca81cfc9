-- What reading a trace gives, and what the functions over a reader promise.
pub mod Reading
pub mod Promises
