pub mod Bounds
pub mod Fitting
pub mod Making
pub mod Unique
