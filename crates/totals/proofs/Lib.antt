pub mod Filled
pub mod Rest
pub mod Laws
