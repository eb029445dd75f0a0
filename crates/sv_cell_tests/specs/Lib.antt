pub mod OnMap
pub mod Found
pub mod NextSteps
pub mod Standing
