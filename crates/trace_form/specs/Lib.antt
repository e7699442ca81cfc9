-- How a trace's header and a record's head are laid out, and what their values mean.
pub mod Form
pub mod Bounds
pub mod Header
