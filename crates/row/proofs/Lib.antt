pub mod EventCases
pub mod HowMany
pub mod Walked
pub mod Tallied
pub mod Adder
pub mod Ripple
pub mod Surveyed
pub mod Found
