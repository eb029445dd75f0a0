pub mod MoreRecordings
pub mod OneMore
pub mod OneRecording
pub mod UsesTaken
pub mod WholeBatch
