pub mod Secrets
pub mod TwoServices
