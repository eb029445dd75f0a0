pub mod NextEvents
