pub mod Table
pub mod Turned
pub mod Gathered
pub mod ByKind
pub mod Capable
pub mod Examples
