pub mod Limiting
pub mod Events
pub mod Row
pub mod Counting
pub mod Survey
