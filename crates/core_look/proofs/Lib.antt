-- What a granted look stands on.
pub mod Within
