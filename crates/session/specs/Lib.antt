pub mod Session
pub mod With
pub mod Capabilities
pub mod Creation
pub mod Limits
pub mod Decisions
pub mod Events
pub mod Questions
