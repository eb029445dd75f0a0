-- What the validator stands for.
pub mod Standing
pub mod Marks
pub mod State
pub mod Taking
pub mod Going
pub mod Runnable
