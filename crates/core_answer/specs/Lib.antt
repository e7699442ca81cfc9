-- What an event is handed and what it leaves, and the contracts of the functions that do one.
pub mod Handed
pub mod Lending
pub mod Promises
