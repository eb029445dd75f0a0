pub mod OneStep
pub mod EventChanges
pub mod StepDone
