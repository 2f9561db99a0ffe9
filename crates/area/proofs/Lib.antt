pub mod Turn
pub mod Range
pub mod Parts
pub mod Tlvs
pub mod Examples
pub mod Slots
pub mod Told
pub mod Same
