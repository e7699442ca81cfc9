-- The laws of the form, for reader and writer to cite.
pub mod Table
pub mod Events
pub mod Heads
pub mod Headers
pub mod OneAnswer
