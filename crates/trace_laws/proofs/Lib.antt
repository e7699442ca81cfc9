-- The theorems, and what they rest on.
pub mod Records
pub mod Lists
pub mod Wholes
pub mod RoundTrip
pub mod Computing
pub mod Example
