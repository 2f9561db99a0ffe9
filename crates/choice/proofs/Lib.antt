pub mod Branch
pub mod Tests
pub mod Determined
