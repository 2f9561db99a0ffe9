pub mod Pick
pub mod Determined
