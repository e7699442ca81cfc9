-- What the lines of a listing are made of.
pub mod Lines
pub mod Writing
