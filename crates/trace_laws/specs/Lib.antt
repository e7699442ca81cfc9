-- What reading and writing a whole trace gives, and document 01's example.
pub mod Traces
pub mod Example
