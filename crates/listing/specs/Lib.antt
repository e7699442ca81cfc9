-- What trace-run takes, the listing of a trace, and what a call of the library leaves.
pub mod Opening
pub mod Listing
pub mod Filling
pub mod Promises
