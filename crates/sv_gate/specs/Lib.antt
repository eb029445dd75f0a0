-- What is kept and what is counted.
pub mod Accounts
pub mod Calls
pub mod Kept
pub mod Gates
pub mod ReadyLaws
pub mod FlowLaws
