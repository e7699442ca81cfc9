-- What a start leaves.
pub mod Started
