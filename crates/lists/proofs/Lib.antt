pub mod First
pub mod Turn
pub mod Later
pub mod Examples
pub mod Chunks
