-- What writing a trace gives.
pub mod Writing
